use Rattle.ot_conform.proofs.Messages.{messages_conform}
use Rattle.ot_conform.proofs.laws.messages_conform.Goals as goal

pub returns : goal.returns
returns c = messages_conform
