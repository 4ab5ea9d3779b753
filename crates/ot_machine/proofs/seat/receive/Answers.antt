use Rattle.ot_machine.proofs.Carrying.{only_wanting}
use Rattle.ot_machine.proofs.seat.receive.Goals as goal

pub only_memory-requires : goal.only_memory-requires
only_memory-requires g c = only_wanting c.in-Err.fault _ c.in-Err.ensures.fault c.requires

pub only_memory-requires-in-Err-receive_kept : goal.only_memory-requires-in-Err-receive_kept
only_memory-requires-in-Err-receive_kept g c = only_wanting c.in-Err-receive_kept.fault _ c.in-Err-receive_kept.ensures.fault c.requires
