use Rattle.ot_conform.proofs.Printed.{printed_chosen_steps_conform}
use Rattle.ot_conform.proofs.laws.printed_chosen_steps_conform.Goals as goal

pub returns : goal.returns
returns c = printed_chosen_steps_conform
