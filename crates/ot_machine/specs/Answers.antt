-- What a step answers, by the table.
use Rattle.std.specs.Prelude.{◌≡◌}
use Rattle.ot_model.specs.declared.shown.Refusal.{Refusal}
use Rattle.ot_model.specs.declared.shown.Refusal.TheVariants.{NoSuchClient, StepsFull, NotJoined, AlreadyJoined, BadBase, ClientFull, LinkEmpty, WrongHead, Memory}
use Rattle.ot_model.specs.Table.{Outcome, Performed, Refused, NoRow}

-- the table performs the instruction
abbrev pub IsPerformed : Outcome → Type 0
IsPerformed (Performed s shown) = Unit {0}
IsPerformed (Refused r) = ⊥
IsPerformed NoRow = ⊥

-- the table refuses for this reason; out of memory only where the table performs
abbrev pub IsRefusal : Outcome → Refusal → Type 0
IsRefusal outcome NoSuchClient = outcome ≡ Refused NoSuchClient
IsRefusal outcome StepsFull = outcome ≡ Refused StepsFull
IsRefusal outcome NotJoined = outcome ≡ Refused NotJoined
IsRefusal outcome AlreadyJoined = outcome ≡ Refused AlreadyJoined
IsRefusal outcome BadBase = outcome ≡ Refused BadBase
IsRefusal outcome ClientFull = outcome ≡ Refused ClientFull
IsRefusal outcome LinkEmpty = outcome ≡ Refused LinkEmpty
IsRefusal outcome WrongHead = outcome ≡ Refused WrongHead
IsRefusal outcome Memory = IsPerformed outcome
