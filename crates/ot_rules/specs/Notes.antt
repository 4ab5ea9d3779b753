-- Sentences on what a port printed, and when they are true.
use Rattle.std.specs.Prelude.{◌≡◌, ℕ, ◌<◌, List, codes, decimal, Bool, true, Option, Some, None, Result, Ok, Err}
use Rattle.std.specs.Option.{option_map}
use Rattle.ot_json.specs.Reading.{operation_of_text}
use Rattle.ot_json.specs.Writing.{text_of_operation}
use Rattle.ot_json.specs.declared.fault.OpFault.{OpFault}
use Rattle.ot_operation.specs.Operation.{Operation}
use Rattle.ot_steps.specs.declared.key.Key.{Key}
use Rattle.ot_steps.specs.declared.key.Key.TheVariants as key
use Rattle.ot_rules.specs.declared.note.Note.{Note}
use Rattle.ot_rules.specs.declared.note.Note.TheVariants.{SameEffect, InUnits, Turned, Untransformed, HalfTransformed, EditAlone, WithoutEdit, RevisionBefore, RevisionAtOpening, DocumentAlone}
use Rattle.ot_rules.specs.declared.explaining.Difference as program_difference
use Rattle.ot_rules.specs.declared.note.Asked as program
use Rattle.ot_rules.specs.Call.{Call, ServerAck, call_value}
use Rattle.ot_rules.specs.Texts.{letters}
use Rattle.ot_rules.specs.Units.{in_units}
use Rattle.ot_rules.specs.Wrong.{made_at}

-- what a port printed that ot.js has not: which value, both as JSON texts, and whether the port printed the operation that the instruction
-- applies, and it is ot.js'
pub record Difference : Type 0 where
  pub key : Option Key
  pub found : List ℕ
  pub wanted : List ℕ
  pub printed : Bool

abbrev pub difference_value : program_difference.Difference → Difference
difference_value d = record { key = d.key; found = d.found.now; wanted = d.wanted.now; printed = d.printed }

-- what notes are asked of: the call that makes the value, the text that ot.js' operation applies to, and the difference
pub record Asked : Type 0 where
  pub call : Call
  pub text : Option (List ℕ)
  pub difference : Difference

abbrev pub asked_value : program.Asked → Asked
asked_value a = record { call = call_value a.call.now; text = option_map letters a.text.now; difference = difference_value a.difference }

-- ---- operations

-- the operation that ot.js' builder makes of an array, if it makes one
abbrev pub operation_in : Result (Operation ℕ) OpFault → Option (Operation ℕ)
operation_in (Ok op) = Some op
operation_in (Err e) = None

-- both are operations, and the same one
abbrev pub AreOne : Option (Operation ℕ) → Option (Operation ℕ) → Type 0
AreOne None other = ⊥
AreOne (Some op) None = ⊥
AreOne (Some op) (Some other) = op ≡ other

-- an operation counted in UTF-16 units over a text
abbrev pub counted : Option (Operation ℕ) → Option (List ℕ) → Option (Operation ℕ)
counted op None = None
counted None (Some text) = None
counted (Some op) (Some text) = in_units op text

-- the operation that a note says was found, if it says one
abbrev pub said : Note → Asked → Option (Operation ℕ)
said InUnits a = counted (operation_in (operation_of_text a.difference.wanted)) a.text
said note a = made_at note a.call a.difference.key

-- the text is the operation's
abbrev pub IsTextOf : List ℕ → Option (Operation ℕ) → Type 0
IsTextOf text None = ⊥
IsTextOf text (Some op) = text ≡ text_of_operation op

-- ---- the revision within `sent`

abbrev pub IsSentRevision : ℕ → Asked → Type 0
IsSentRevision revision a = (a.difference.key ≡ Some key.SentRevision) × (a.difference.found ≡ decimal revision)

-- the revision of the client before an acknowledgement
abbrev pub IsRevisionBefore : Call → Asked → Type 0
IsRevisionBefore (ServerAck revision w) a = IsSentRevision revision a
IsRevisionBefore _ a = ⊥

-- ---- what each note says

abbrev pub IsTrueOf : Note → Asked → Type 0
IsTrueOf SameEffect a = AreOne (operation_in (operation_of_text a.difference.found)) (operation_in (operation_of_text a.difference.wanted))
IsTrueOf RevisionBefore a = IsRevisionBefore a.call a
IsTrueOf RevisionAtOpening a = IsSentRevision 0 a
IsTrueOf DocumentAlone a = (a.difference.key ≡ Some key.Document) × (a.difference.printed ≡ true)
IsTrueOf note a = IsTextOf a.difference.found (said note a)

-- the order in which they are asked
abbrev pub rank : Note → ℕ
rank SameEffect = 0
rank InUnits = 1
rank Turned = 2
rank Untransformed = 3
rank HalfTransformed = 4
rank EditAlone = 5
rank WithoutEdit = 6
rank RevisionBefore = 7
rank RevisionAtOpening = 8
rank DocumentAlone = 9

-- the note is true, and none before it is; there is none only where none is true
abbrev pub IsFirst : Option Note → Asked → Type 0
IsFirst None a = (n : Note) → IsTrueOf n a → ⊥
IsFirst (Some note) a = IsTrueOf note a × ((n : Note) → rank n < rank note → IsTrueOf n a → ⊥)

-- ---- in words

abbrev pub sentence : Note → Option Key → List ℕ
sentence SameEffect f = codes "the same effect in another form: ot.js keeps an insertion before a deletion and merges neighbours"
sentence InUnits f = codes "the same operation with lengths counted in UTF-16 units; otbench counts Unicode scalar values"
sentence Turned f = codes "that is what transform gives if the text of its second argument goes first"
sentence Untransformed (Some key.Outstanding) = codes "that is the outstanding operation as it was, not transformed"
sentence Untransformed (Some key.Buffer) = codes "that is the buffer as it was, not transformed"
sentence Untransformed (Some key.Appended) = codes "that is the message itself, not transformed"
sentence Untransformed _ = codes "that is the delivered operation itself, not transformed"
sentence HalfTransformed (Some key.Buffer) = codes "that is the buffer transformed against the delivered operation itself, and not against what the outstanding one makes of it"
sentence HalfTransformed _ = codes "that was transformed against the outstanding operation and not against the buffer"
sentence EditAlone f = codes "that is the edit alone, not composed with the buffer"
sentence WithoutEdit f = codes "that is the buffer as it was, the edit not composed with it"
sentence RevisionBefore f = codes "that is the revision before this acknowledgement"
sentence RevisionAtOpening f = codes "that is the revision at the opening"
sentence DocumentAlone f = codes "the operation printed here is ot.js' own, and the document is not: look at what applies it to the text"
