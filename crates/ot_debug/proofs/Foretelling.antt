-- What an instruction changes, row by row of the table.
use Rattle.std.proofs.Common.{◌≡◌, ◌≢◌, ℕ, ◌+◌, ◌≤◌, List, [], length, set, refl, ap, sym, ◌∙◌, subst, Option, Some, None, Bool, true, false, inl, inr}
use Rattle.std.proofs.lemmas.Bool.{cases_eq, eqb-false, eqb-true, ne_eqb}
use Rattle.std.specs.Prelude.{slice_get, unwrap_or, ◌==◌, if◌then◌else◌, not, IfSome, IsTrue, MatchBool}
use Rattle.std.proofs.lemmas.Option.{same_Some}
use Rattle.std.specs.Option.{option_map}
use Rattle.ot_isa.specs.Program.{client_of}
use Rattle.ot_isa.specs.declared.elements.Tagged.{Tagged}
use Rattle.ot_isa.specs.declared.instruction.Instr.{Instr}
use Rattle.ot_isa.specs.declared.instruction.Instr.TheVariants.{Edit, Take, Deliver, Acknowledge, Join, Read, ReadServer}
use Rattle.ot_model.specs.Operation.{Operation, inserted}
use Rattle.ot_model.specs.Table.{Client, Entry, State, Phase, Performed, NotJoined, Synchronized, AwaitingConfirm, AwaitingWithBuffer, step, acknowledged, against_pending, edited, delivered, is_joined, joined, phase_delivered, phase_edited, tag_operation, with_client, with_row}
use Rattle.ot_model.proofs.Outcomes.{by_edit, by_take, by_deliver, by_acknowledge, by_join, by_read, by_read_server}
use Rattle.ot_model.proofs.States.{slice_get-set_other, slice_get-set_same}
use Rattle.ot_machine.specs.declared.state.Phase as names
use Rattle.ot_machine.specs.declared.state.Phase.TheVariants as name
use Rattle.ot_machine.specs.Readers.{phase_name, ClientHas}
use Rattle.ot_machine.specs.Effects.{delivery_of}
use Rattle.ot_debug.specs.declared.command.Watched.TheVariants as watched
use Rattle.ot_debug.specs.Changes.{ChangesList, Foretells}

-- what is read of a client, before and after its own or another's place changes
abbrev read : {A : Type 0} → (Client → A) → A → Option Client → A
read f none o = unwrap_or (option_map f o) none

read_other : {A : Type 0} (f : Client → A) (none : A) (clients : List Client) (d c : ℕ) (y : Client) → (d == c) ≡ false → read f none (slice_get clients c) ≡ read f none (slice_get (set clients d y) c)
read_other f none clients d c y off = ap (read f none) (sym (slice_get-set_other clients d c y (λ e. eqb-false d c off (sym e))))

read_after : {A : Type 0} (f : Client → A) (none : A) (clients : List Client) (c : ℕ) (x y : Client) → slice_get clients c ≡ Some x → read f none (slice_get (set clients c y) c) ≡ f y
read_after f none clients c x y at = ap (read f none) (slice_get-set_same clients c x y at)

read_same : {A : Type 0} (f : Client → A) (none : A) (clients : List Client) (d c : ℕ) (x y : Client) → slice_get clients d ≡ Some x → f x ≡ f y → read f none (slice_get clients c) ≡ read f none (slice_get (set clients d y) c)
read_same f none clients d c x y at stays =
    elim (cases_eq c d) [
      | inl same ↦
          ap (λ (n : ℕ). read f none (slice_get clients n)) same ∙ ap (read f none) at ∙ stays
          ∙ sym (read_after f none clients d x y at) ∙ ap (λ (n : ℕ). read f none (slice_get (set clients d y) n)) (sym same)
      | inr other ↦ ap (read f none) (sym (slice_get-set_other clients d c y other))
    ]

-- changed or not, as two values are
abbrev Differ : {A : Type 0} → Bool → A → A → Type 0
Differ changed a b = MatchBool changed (a ≢ b) (a ≡ b)

told : {A : Type 0} (changed : Bool) (a b x y : A) → a ≡ x → b ≡ y → Differ changed y x → MatchBool changed (a ≢ b) ((a ≢ b) → ⊥)
told true a b x y e f other = λ same. other (sym f ∙ sym same ∙ e)
told false a b x y e f same = λ other. other (e ∙ sym same ∙ sym f)

list_told : (changed : Bool) (s : State) (c : ℕ) (x y : Client) → slice_get s.clients c ≡ Some x → Differ changed y.list x.list → Foretells (Performed (with_client s c y) None) s (watched.Doc c) changed
list_told changed s c x y at is =
    told changed _ _ x.list y.list (ap (read (λ (z : Client). z.list) []) at) (read_after (λ (z : Client). z.list) [] s.clients c x y at) is

phase_told : (changed : Bool) (s : State) (c : ℕ) (x y : Client) → slice_get s.clients c ≡ Some x → Differ changed (phase_name y.phase) (phase_name x.phase) → Foretells (Performed (with_client s c y) None) s (watched.State c) changed
phase_told changed s c x y at is =
    told changed _ _ (phase_name x.phase) (phase_name y.phase) (ap (read (λ (z : Client). phase_name z.phase) name.NotJoined) at) (read_after (λ (z : Client). phase_name z.phase) name.NotJoined s.clients c x y at) is

-- ---- lists

pub edit_told :
    (s : State) (c : ℕ) (op : Operation ℕ) (changed : Bool)
    → ((x : Client) → slice_get s.clients c ≡ Some x → op.base ≡ length x.list → x.count + inserted op ≤ 15000 → ChangesList (tag_operation c x.count op) x.list changed)
    → Foretells (step s (Edit c op)) s (watched.Doc c) changed
edit_told s c op changed is =
    by_edit (λ o. Foretells o s (watched.Doc c) changed) (λ r. tt) s c op (λ x at below on base few. list_told changed s c x (edited x (tag_operation c x.count op)) at (is x at base few))

pub delivery_told :
    (s : State) (c : ℕ) (changed : Bool)
    → ((x : Client) (h : Entry) → slice_get s.clients c ≡ Some x → is_joined x.phase ≡ true → slice_get s.log x.revision ≡ Some h → h.maker ≢ c → ChangesList (against_pending x.phase h.op) x.list changed)
    → Foretells (step s (Deliver c)) s (watched.Doc c) changed
delivery_told s c changed is =
    by_deliver (λ o. Foretells o s (watched.Doc c) changed) (λ r. tt) s c (λ x h at below on head other. list_told changed s c x (delivered x h.op) at (is x h at on head other))

pub join_told :
    (s : State) (c : ℕ) (changed : Bool)
    → ((x : Client) → slice_get s.clients c ≡ Some x → Differ changed s.server x.list)
    → Foretells (step s (Join c)) s (watched.Doc c) changed
join_told s c changed is = by_join (λ o. Foretells o s (watched.Doc c) changed) (λ r. tt) s c (λ x at below off. list_told changed s c x (joined s x) at (is x at))

-- what the machine says of the client
pub has_value : {A : Type 0} (s : State) (c : ℕ) (x : Client) (field : Client → A) (value : A) → slice_get s.clients c ≡ Some x → ClientHas s c field value → field x ≡ value
has_value s c x field value at has = same_Some (field x) value (ap (option_map field) (sym at) ∙ has)

edit_of_client :
    (s : State) (c first : ℕ) (op : Operation ℕ) (tagged : Operation Tagged) (list : List Tagged) (changed : Bool) (x : Client) → slice_get s.clients c ≡ Some x
    → ClientHas s c (λ y. y.list) list → ClientHas s c (λ y. y.count) first → tagged ≡ tag_operation c first op → ChangesList tagged list changed → ChangesList (tag_operation c x.count op) x.list changed
edit_of_client s c first op tagged list changed x at has_list has_count is told =
    subst (λ (d : List Tagged). ChangesList (tag_operation c x.count op) d changed) (sym (has_value s c x (λ y. y.list) list at has_list))
    (subst (λ (n : ℕ). ChangesList (tag_operation c n op) list changed) (sym (has_value s c x (λ y. y.count) first at has_count))
    (subst (λ (o : Operation Tagged). ChangesList o list changed) is told))

pub edit_changes :
    (s : State) (own first : ℕ) (op : Operation ℕ) (tagged : Operation Tagged) (list : List Tagged) (changed : Bool)
    → ClientHas s own (λ y. y.list) list → ClientHas s own (λ y. y.count) first → tagged ≡ tag_operation own first op → ChangesList tagged list changed → Foretells (step s (Edit own op)) s (watched.Doc own) changed
edit_changes s own first op tagged list changed has_list has_count is told =
    edit_told s own op changed (λ x at base few. edit_of_client s own first op tagged list changed x at has_list has_count is told)

delivery_is : (s : State) (c : ℕ) (x : Client) (h : Entry) → is_joined x.phase ≡ true → slice_get s.log x.revision ≡ Some h → h.maker ≢ c → delivery_of s c x ≡ Some (against_pending x.phase h.op)
delivery_is s c x h on head other = rw (on, head) (by_maker (h.maker == c) refl)
  where
    by_maker : (own : Bool) → (h.maker == c) ≡ own → (if own then None else Some (against_pending x.phase h.op)) ≡ Some (against_pending x.phase h.op)
    by_maker true is = absurd (other (eqb-true h.maker c is))
    by_maker false is = refl

pub delivery_changes :
    (s : State) (own : ℕ) (op : Operation Tagged) (list : List Tagged) (changed : Bool)
    → ClientHas s own (λ y. y.list) list → ClientHas s own (delivery_of s own) (Some op) → ChangesList op list changed → Foretells (step s (Deliver own)) s (watched.Doc own) changed
delivery_changes s own op list changed has_list has_delivery changes =
    delivery_told s own changed
    (λ x h at on head other.
    let applied : op ≡ against_pending x.phase h.op = same_Some op (against_pending x.phase h.op) (sym (has_value s own x (delivery_of s own) (Some op) at has_delivery) ∙ delivery_is s own x h on head other) in
    subst (λ (d : List Tagged). ChangesList (against_pending x.phase h.op) d changed) (sym (has_value s own x (λ y. y.list) list at has_list))
    (subst (λ (o : Operation Tagged). ChangesList o list changed) applied changes))

-- where nothing would be applied, no delivery is performed
pub no_delivery : (s : State) (own : ℕ) → ClientHas s own (delivery_of s own) None → Foretells (step s (Deliver own)) s (watched.Doc own) false
no_delivery s own has =
    delivery_told s own false
    (λ x h at on head other.
    let none : None ≡ Some (against_pending x.phase h.op) = sym (has_value s own x (delivery_of s own) None at has) ∙ delivery_is s own x h on head other in absurd (cc))

differ_by : {A : Type 0} (same : Bool) (a b x y : A) → (IsTrue same → a ≡ b) → (a ≡ b → IsTrue same) → a ≡ x → b ≡ y → Differ (not same) x y
differ_by true a b x y is back e f = sym e ∙ is refl ∙ f
differ_by false a b x y is back e f = λ g. let t : IsTrue false = back (e ∙ g ∙ sym f) in absurd (cc)

pub join_changes :
    (s : State) (own : ℕ) (server list : List Tagged) (same : Bool) → server ≡ s.server → ClientHas s own (λ y. y.list) list → (IsTrue same → server ≡ list) → (server ≡ list → IsTrue same)
    → Foretells (step s (Join own)) s (watched.Doc own) (not same)
join_changes s own server list same server_is has_list is back =
    join_told s own (not same) (λ x at. differ_by same server list s.server x.list is back server_is (sym (has_value s own x (λ y. y.list) list at has_list)))

-- these may change the list of the client that they name, and no other one
abbrev pub touches : Instr → Bool
touches (Edit d op) = true
touches (Deliver d) = true
touches (Join d) = true
touches i = false

list_other : (s : State) (d c : ℕ) (y : Client) → (d == c) ≡ false → Foretells (Performed (with_client s d y) None) s (watched.Doc c) false
list_other s d c y off changed = changed (read_other (λ (z : Client). z.list) [] s.clients d c y off)

list_same : (s : State) (d c : ℕ) (x y : Client) → slice_get s.clients d ≡ Some x → x.list ≡ y.list → Foretells (Performed (with_client s d y) None) s (watched.Doc c) false
list_same s d c x y at stays changed = changed (read_same (λ (z : Client). z.list) [] s.clients d c x y at stays)

acknowledged_list : (s : State) (d c : ℕ) (x : Client) (phase : Phase) → slice_get s.clients d ≡ Some x → Foretells (with_row s d (acknowledged x phase)) s (watched.Doc c) false
acknowledged_list s d c x NotJoined at = tt
acknowledged_list s d c x Synchronized at = tt
acknowledged_list s d c x (AwaitingConfirm o) at = list_same s d c x _ at refl
acknowledged_list s d c x (AwaitingWithBuffer o b) at = list_same s d c x _ at refl

pub list_stays : (s : State) (i : Instr) (c : ℕ) → (touches i ≡ true → client_of i ≡ Some c → ⊥) → Foretells (step s i) s (watched.Doc c) false
list_stays s (Edit d op) c off =
    by_edit (λ o. Foretells o s (watched.Doc c) false) (λ r. tt) s d op (λ x at below on base few. list_other s d c _ (ne_eqb d c (λ e. off refl (ap Some e))))
list_stays s (Take d) c off =
    by_take (λ o. Foretells o s (watched.Doc c) false) (λ r. tt) s d (λ x m at below on is changed. changed (read_same (λ (z : Client). z.list) [] s.clients d c x _ at refl))
list_stays s (Deliver d) c off =
    by_deliver (λ o. Foretells o s (watched.Doc c) false) (λ r. tt) s d (λ x h at below on head other. list_other s d c _ (ne_eqb d c (λ e. off refl (ap Some e))))
list_stays s (Acknowledge d) c off = by_acknowledge (λ o. Foretells o s (watched.Doc c) false) (λ r. tt) s d (λ x h at below on head own. acknowledged_list s d c x x.phase at)
list_stays s (Join d) c off = by_join (λ o. Foretells o s (watched.Doc c) false) (λ r. tt) s d (λ x at below apart. list_other s d c _ (ne_eqb d c (λ e. off refl (ap Some e))))
list_stays s (Read d) c off = by_read (λ o. Foretells o s (watched.Doc c) false) (λ r. tt) s d (λ x at below on changed. changed refl)
list_stays s ReadServer c off = by_read_server (λ o. Foretells o s (watched.Doc c) false) (λ r. tt) s (λ below changed. changed refl)

-- so of the one that it names, where it is none of these
pub list_rest :
    (s : State) (i : Instr) → ((d : ℕ) (op : Operation ℕ) → i ≡ Edit d op → ⊥) → ((d : ℕ) → i ≡ Deliver d → ⊥) → ((d : ℕ) → i ≡ Join d → ⊥) → IfSome (client_of i) (λ c. Foretells (step s i) s (watched.Doc c) false)
list_rest s (Edit d op) no_edit no_delivery no_join = absurd (no_edit d op refl)
list_rest s (Take d) no_edit no_delivery no_join = list_stays s (Take d) d (λ e. absurd (cc))
list_rest s (Deliver d) no_edit no_delivery no_join = absurd (no_delivery d refl)
list_rest s (Acknowledge d) no_edit no_delivery no_join = list_stays s (Acknowledge d) d (λ e. absurd (cc))
list_rest s (Join d) no_edit no_delivery no_join = absurd (no_join d refl)
list_rest s (Read d) no_edit no_delivery no_join = list_stays s (Read d) d (λ e. absurd (cc))
list_rest s ReadServer no_edit no_delivery no_join = tt

-- ---- states

-- an edit leads to the next state, up to a buffer
abbrev pub moves_on : names.Phase → Bool
moves_on name.NotJoined = true
moves_on name.Synchronized = true
moves_on name.AwaitingConfirm = true
moves_on name.AwaitingWithBuffer = false

edited_name : (phase : Phase) (op : Operation Tagged) → is_joined phase ≡ true → Differ (moves_on (phase_name phase)) (phase_name (phase_edited phase op)) (phase_name phase)
edited_name NotJoined op on = absurd (cc)
edited_name Synchronized op on = λ e. absurd (cc)
edited_name (AwaitingConfirm o) op on = λ e. absurd (cc)
edited_name (AwaitingWithBuffer o b) op on = refl

pub edit_moves :
    (s : State) (c : ℕ) (op : Operation ℕ) (changed : Bool) → ((x : Client) → slice_get s.clients c ≡ Some x → changed ≡ moves_on (phase_name x.phase))
    → Foretells (step s (Edit c op)) s (watched.State c) changed
edit_moves s c op changed is =
    by_edit (λ o. Foretells o s (watched.State c) changed) (λ r. tt) s c op
    (λ x at below on base few.
    phase_told changed s c x (edited x (tag_operation c x.count op)) at
    (subst (λ b. Differ b (phase_name (phase_edited x.phase (tag_operation c x.count op))) (phase_name x.phase)) (sym (is x at)) (edited_name x.phase (tag_operation c x.count op) on)))

moves_true : (p : names.Phase) → (p ≡ name.AwaitingWithBuffer → ⊥) → moves_on p ≡ true
moves_true name.NotJoined other = refl
moves_true name.Synchronized other = refl
moves_true name.AwaitingConfirm other = refl
moves_true name.AwaitingWithBuffer other = absurd (other refl)

-- an edit by the name of the state
pub edit_waits : (s : State) (own : ℕ) (p : names.Phase) (op : Operation ℕ) → ClientHas s own (λ y. phase_name y.phase) p → p ≡ name.AwaitingWithBuffer → Foretells (step s (Edit own op)) s (watched.State own) false
edit_waits s own p op has is = edit_moves s own op false (λ x at. ap moves_on (sym (has_value s own x (λ y. phase_name y.phase) p at has ∙ is)))

pub edit_goes_on : (s : State) (own : ℕ) (p : names.Phase) (op : Operation ℕ) → ClientHas s own (λ y. phase_name y.phase) p → (p ≡ name.AwaitingWithBuffer → ⊥) → Foretells (step s (Edit own op)) s (watched.State own) true
edit_goes_on s own p op has other = edit_moves s own op true (λ x at. sym (moves_true p other) ∙ ap moves_on (sym (has_value s own x (λ y. phase_name y.phase) p at has)))

acknowledged_name : (s : State) (c : ℕ) (x : Client) (phase : Phase) → x.phase ≡ phase → slice_get s.clients c ≡ Some x → Foretells (with_row s c (acknowledged x phase)) s (watched.State c) true
acknowledged_name s c x NotJoined is at = tt
acknowledged_name s c x Synchronized is at = tt
acknowledged_name s c x (AwaitingConfirm o) is at = phase_told true s c x _ at (λ e. let f : name.Synchronized ≡ name.AwaitingConfirm = e ∙ ap phase_name is in absurd (cc))
acknowledged_name s c x (AwaitingWithBuffer o b) is at = phase_told true s c x _ at (λ e. let f : name.AwaitingConfirm ≡ name.AwaitingWithBuffer = e ∙ ap phase_name is in absurd (cc))

pub acknowledge_moves : (s : State) (c : ℕ) → Foretells (step s (Acknowledge c)) s (watched.State c) true
acknowledge_moves s c = by_acknowledge (λ o. Foretells o s (watched.State c) true) (λ r. tt) s c (λ x h at below on head own. acknowledged_name s c x x.phase refl at)

joined_name : (phase : Phase) → is_joined phase ≡ false → name.Synchronized ≢ phase_name phase
joined_name NotJoined off = λ e. absurd (cc)
joined_name Synchronized off = absurd (cc)
joined_name (AwaitingConfirm o) off = absurd (cc)
joined_name (AwaitingWithBuffer o b) off = absurd (cc)

pub join_moves : (s : State) (c : ℕ) → Foretells (step s (Join c)) s (watched.State c) true
join_moves s c = by_join (λ o. Foretells o s (watched.State c) true) (λ r. tt) s c (λ x at below off. phase_told true s c x (joined s x) at (joined_name x.phase off))

-- these may lead the client that they name to another state, and no other one
abbrev pub moves : Instr → Bool
moves (Edit d op) = true
moves (Acknowledge d) = true
moves (Join d) = true
moves i = false

phase_other : (s : State) (d c : ℕ) (y : Client) → (d == c) ≡ false → Foretells (Performed (with_client s d y) None) s (watched.State c) false
phase_other s d c y off changed = changed (read_other (λ (z : Client). phase_name z.phase) name.NotJoined s.clients d c y off)

acknowledged_other : (s : State) (d c : ℕ) (x : Client) (phase : Phase) → (d == c) ≡ false → Foretells (with_row s d (acknowledged x phase)) s (watched.State c) false
acknowledged_other s d c x NotJoined off = tt
acknowledged_other s d c x Synchronized off = tt
acknowledged_other s d c x (AwaitingConfirm o) off = phase_other s d c _ off
acknowledged_other s d c x (AwaitingWithBuffer o b) off = phase_other s d c _ off

delivered_name : (phase : Phase) (h : Operation Tagged) → phase_name phase ≡ phase_name (phase_delivered phase h)
delivered_name NotJoined h = refl
delivered_name Synchronized h = refl
delivered_name (AwaitingConfirm o) h = refl
delivered_name (AwaitingWithBuffer o b) h = refl

pub phase_stays : (s : State) (i : Instr) (c : ℕ) → (moves i ≡ true → client_of i ≡ Some c → ⊥) → Foretells (step s i) s (watched.State c) false
phase_stays s (Edit d op) c off =
    by_edit (λ o. Foretells o s (watched.State c) false) (λ r. tt) s d op (λ x at below on base few. phase_other s d c _ (ne_eqb d c (λ e. off refl (ap Some e))))
phase_stays s (Take d) c off =
    by_take (λ o. Foretells o s (watched.State c) false) (λ r. tt) s d (λ x m at below on is changed. changed (read_same (λ (z : Client). phase_name z.phase) name.NotJoined s.clients d c x _ at refl))
phase_stays s (Deliver d) c off =
    by_deliver (λ o. Foretells o s (watched.State c) false) (λ r. tt) s d
    (λ x h at below on head other changed. changed (read_same (λ (z : Client). phase_name z.phase) name.NotJoined s.clients d c x _ at (delivered_name x.phase h.op)))
phase_stays s (Acknowledge d) c off =
    by_acknowledge (λ o. Foretells o s (watched.State c) false) (λ r. tt) s d (λ x h at below on head own. acknowledged_other s d c x x.phase (ne_eqb d c (λ e. off refl (ap Some e))))
phase_stays s (Join d) c off = by_join (λ o. Foretells o s (watched.State c) false) (λ r. tt) s d (λ x at below apart. phase_other s d c _ (ne_eqb d c (λ e. off refl (ap Some e))))
phase_stays s (Read d) c off = by_read (λ o. Foretells o s (watched.State c) false) (λ r. tt) s d (λ x at below on changed. changed refl)
phase_stays s ReadServer c off = by_read_server (λ o. Foretells o s (watched.State c) false) (λ r. tt) s (λ below changed. changed refl)

pub phase_rest :
    (s : State) (i : Instr) → ((d : ℕ) (op : Operation ℕ) → i ≡ Edit d op → ⊥) → ((d : ℕ) → i ≡ Acknowledge d → ⊥) → ((d : ℕ) → i ≡ Join d → ⊥) → IfSome (client_of i) (λ c. Foretells (step s i) s (watched.State c) false)
phase_rest s (Edit d op) no_edit no_answer no_join = absurd (no_edit d op refl)
phase_rest s (Take d) no_edit no_answer no_join = phase_stays s (Take d) d (λ e. absurd (cc))
phase_rest s (Deliver d) no_edit no_answer no_join = phase_stays s (Deliver d) d (λ e. absurd (cc))
phase_rest s (Acknowledge d) no_edit no_answer no_join = absurd (no_answer d refl)
phase_rest s (Join d) no_edit no_answer no_join = absurd (no_join d refl)
phase_rest s (Read d) no_edit no_answer no_join = phase_stays s (Read d) d (λ e. absurd (cc))
phase_rest s ReadServer no_edit no_answer no_join = tt
