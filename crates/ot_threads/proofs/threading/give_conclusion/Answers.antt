use Rattle.std.proofs.Common.{rules, inl}
use Rattle.ot_threads.proofs.threading.give_conclusion.Goals as goal

pub returns-in-Ok : goal.returns-in-Ok
returns-in-Ok g c = inl (record { text = c.in-Ok.text.items; concluded = c.in-Ok.ensures.ok; gives = search rules })
