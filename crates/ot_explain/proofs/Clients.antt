-- What is said of a client, from what it has.
use Rattle.std.proofs.Common.{◌≡◌, ℕ, zero, suc, ◌<◌, List, [], ◌∷◌, length, get_or, refl, sym, ap, ◌∙◌, arith, Option, Some, None}
use Rattle.std.specs.Prelude.{slice_get, unwrap_or}
use Rattle.std.specs.Option.{option_map}
use Rattle.std.proofs.lemmas.Option.{get_or_from_slice_get, same_Some, slice_get_within}
use Rattle.ot_isa.specs.Program.{IsForClients}
use Rattle.ot_isa.specs.declared.instruction.Instr.{Instr}
use Rattle.ot_isa.specs.declared.instruction.Instr.TheVariants.{Edit, Take, Deliver, Acknowledge, Join, Read, ReadServer}
use Rattle.ot_model.specs.declared.shown.Shown.{Shown}
use Rattle.ot_model.specs.Table.{Client, State, Performed, absent, at_client}
use Rattle.ot_machine.specs.Readers.{ClientHas}
use Rattle.ot_machine.specs.Effects.{client_in}
use Rattle.ot_steps.specs.Steps.{LeadsTo}

-- the client that has a value
one_that_has : {A : Type 0} (s : State) (c : ℕ) (field : Client → A) (value : A) → ClientHas s c field value → (x : Client) × (slice_get s.clients c ≡ Some x) × (field x ≡ value)
one_that_has s c field value has = go (slice_get s.clients c) refl has
  where
    go : (o : Option Client) → slice_get s.clients c ≡ o → option_map field o ≡ Some value → (x : Client) × (slice_get s.clients c ≡ Some x) × (field x ≡ value)
    go None at has = absurd (cc)
    go (Some x) at has = (x, at, same_Some (field x) value has)

-- one of its values
pub has_in : {A : Type 0} (s : State) (c : ℕ) (field : Client → A) (value : A) → ClientHas s c field value → value ≡ field (client_in s c)
has_in s c field value has =
    let found = one_that_has s c field value has in
    sym (ap field (get_or_from_slice_get s.clients c found.0 absent found.1) ∙ found.2)

-- the words for what is there
of_one : (xs : List Client) (c : ℕ) (words : Client → List ℕ) → c < length xs → words (get_or xs c absent) ≡ unwrap_or (option_map words (slice_get xs c)) []
of_one [] c words inside = absurd (omega (arith, inside))
of_one (x ∷ xs) zero words inside = refl
of_one (x ∷ xs) (suc c) words inside = of_one xs c words (omega (arith, inside))

-- a performed instruction is of a client that was there before it
within_first : (s t : State) (i : Instr) (c : ℕ) (o : Option Client) (shown : Option Shown) → slice_get s.clients c ≡ o → at_client s i c o ≡ Performed t shown → c < length s.clients
within_first s t i c None shown at e = absurd (cc)
within_first s t i c (Some x) shown at e = slice_get_within s.clients c x at

pub leads_from : (s t : State) (i : Instr) → LeadsTo i s t → IsForClients (length s.clients) i
leads_from s t (Edit c op) leads = within_first s t (Edit c op) c (slice_get s.clients c) leads.0 refl leads.1
leads_from s t (Take c) leads = within_first s t (Take c) c (slice_get s.clients c) leads.0 refl leads.1
leads_from s t (Deliver c) leads = within_first s t (Deliver c) c (slice_get s.clients c) leads.0 refl leads.1
leads_from s t (Acknowledge c) leads = within_first s t (Acknowledge c) c (slice_get s.clients c) leads.0 refl leads.1
leads_from s t (Join c) leads = within_first s t (Join c) c (slice_get s.clients c) leads.0 refl leads.1
leads_from s t (Read c) leads = within_first s t (Read c) c (slice_get s.clients c) leads.0 refl leads.1
leads_from s t ReadServer leads = tt
