-- What the lemmas assume of a schedule that has images, item by item, and that every schedule is so.
use Rattle.std.proofs.Common.{◌≡◌, ℕ, ◌+◌, ◌≤◌, List, [], ◌∷◌, ◌++◌, true, length, ap}
use Rattle.std.proofs.lemmas.Bool.{and_parts}
use Rattle.std.proofs.lemmas.List.Elements.{All-head, All-tail, filter_map-append}
use Rattle.std.specs.Char.{IsScalar}
use Rattle.std.specs.List.{All, AllByRecursion}
use Rattle.std.specs.Str.{all_scalars}
use Rattle.ot_operation.specs.Operation.{Operation, news}
use Rattle.ot_operation.specs.Run.{Run, Keep, Add, Skip, image_from, operation_of, IsNormal, normal_runs}
use Rattle.ot_operation.proofs.Normal.{runs_normal}
use Rattle.ot_isa.specs.declared.instruction.Instr.{Instr}
use Rattle.ot_isa.specs.declared.instruction.Instr.TheVariants as instr
use Rattle.ot_isa.specs.Program.{Program, IsProgram, IsInstr, IsForClients, IsOfLimits, HasScalars}
use Rattle.ot_isa.proofs.ScalarLists.{olds_none, news_map}
use Rattle.ot_image.specs.Spelling.{chars_in}

-- the characters are Unicode scalar values
abbrev pub AreScalars : List ℕ → Type 0
AreScalars chars = AllByRecursion IsScalar chars

-- so are the new characters of each component
abbrev pub AreSpelled : List (Run ℕ) → Type 0
AreSpelled rs = AllByRecursion (λ r. AreScalars (chars_in r)) rs

-- the operation is spelled by its components, which are within the limits
pub record IsSpelled (op : Operation ℕ) : Type 0 where
  pub normal : IsNormal (normal_runs op)
  pub spelled : operation_of (normal_runs op) ≡ op
  pub base : op.base ≤ 1000000
  pub target : length op.image ≤ 1000000
  pub scalars : AreSpelled (normal_runs op)

-- an edit's operation is spelled so
abbrev pub IsSpelledInstr : Instr → Type 0
IsSpelledInstr (instr.Edit client op) = IsSpelled op
IsSpelledInstr (instr.Take client) = Unit {0}
IsSpelledInstr (instr.Deliver client) = Unit {0}
IsSpelledInstr (instr.Acknowledge client) = Unit {0}
IsSpelledInstr (instr.Read client) = Unit {0}
IsSpelledInstr instr.ReadServer = Unit {0}
IsSpelledInstr (instr.Join client) = Unit {0}

-- what has an image
pub record HasImage (p : Program) : Type 0 where
  pub clients_from : 1 ≤ p.clients
  pub clients_to : p.clients ≤ 64
  pub present_to : p.present ≤ p.clients
  pub start_fits : length p.start ≤ 40000
  pub start_scalars : AreScalars p.start
  pub instrs_fit : length p.instrs ≤ 100000
  pub instrs : AllByRecursion (λ i. IsForClients p.clients i × IsSpelledInstr i) p.instrs

are_scalars : (chars : List ℕ) → all_scalars chars ≡ true → AreScalars chars
are_scalars [] e = tt
are_scalars (c ∷ chars) e = let k = and_parts _ _ e in (k.0, are_scalars chars k.1)

parts_are : (xs ys : List ℕ) → all_scalars (xs ++ ys) ≡ true → AreScalars xs × (all_scalars ys ≡ true)
parts_are [] ys e = (tt, e)
parts_are (x ∷ xs) ys e = let k = and_parts _ _ e in let others = parts_are xs ys k.1 in ((k.0, others.0), others.1)

runs_are_spelled : (from : ℕ) (rs : List (Run ℕ)) → all_scalars (news (image_from from rs)) ≡ true → AreSpelled rs
runs_are_spelled from [] e = tt
runs_are_spelled from (Keep n ∷ rs) e =
    let rest : all_scalars (news (image_from (from + n) rs)) ≡ true = rw (filter_map-append, olds_none) at e in
    (tt, runs_are_spelled (from + n) rs rest)
runs_are_spelled from (Add text ∷ rs) e =
    let whole : all_scalars (text ++ news (image_from from rs)) ≡ true = rw (filter_map-append, news_map) at e in
    let k = parts_are text (news (image_from from rs)) whole in
    (k.0, runs_are_spelled from rs k.1)
runs_are_spelled from (Skip n ∷ rs) e = (tt, runs_are_spelled (from + n) rs e)

instr_spelled : (i : Instr) → IsOfLimits i → HasScalars i → IsSpelledInstr i
instr_spelled (instr.Edit c op) limits scalars =
    let k = runs_normal op limits.operation in
    let image : image_from 0 (normal_runs op) ≡ op.image = ap (λ (o : Operation ℕ). o.image) k.1 in
    record { normal = k.0; spelled = k.1; base = limits.base; target = limits.target; scalars = runs_are_spelled 0 (normal_runs op) (rw image scalars) }
instr_spelled (instr.Take c) limits scalars = tt
instr_spelled (instr.Deliver c) limits scalars = tt
instr_spelled (instr.Acknowledge c) limits scalars = tt
instr_spelled (instr.Read c) limits scalars = tt
instr_spelled (instr.Join c) limits scalars = tt
instr_spelled instr.ReadServer limits scalars = tt

instrs_spelled : (clients : ℕ) (is : List Instr) → All (IsInstr clients) is → All HasScalars is → AllByRecursion (λ i. IsForClients clients i × IsSpelledInstr i) is
instrs_spelled clients [] are scalars = tt
instrs_spelled clients (i ∷ is) are scalars =
    let first = All-head (IsInstr clients) i is are in
    ((first.0, instr_spelled i first.1 (All-head HasScalars i is scalars)), instrs_spelled clients is (All-tail (IsInstr clients) i is are) (All-tail HasScalars i is scalars))

-- every schedule has images
pub has_image : (p : Program) → IsProgram p → HasImage p
has_image p is = record {
  clients_from = is.clients_from;
  clients_to = is.clients_to;
  present_to = is.present_to;
  start_fits = is.start_fits;
  start_scalars = are_scalars p.start is.start_scalars;
  instrs_fit = is.instrs_fit;
  instrs = instrs_spelled p.clients p.instrs is.instrs_are is.instrs_scalars;
}
