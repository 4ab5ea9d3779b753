-- What trace_from says of the type of traces.
use Rattle.std.proofs.Common.{◌≡◌, ℕ, List, [], ◌∷◌, length, ap, sym, ◌∙◌, cond, arith, Bool, true, false, ◌||◌, ◌&&◌, refl, inl, inr}
use Rattle.std.specs.Prelude.{Option, Some, None, Result, Ok, Err, All, ◌==◌, nat_lt}
use Rattle.std.specs.List.{list_all}
use Rattle.std.proofs.lemmas.Bool.{cases_Bool, and_parts, eqb-true, ltb-true}
use Rattle.std.proofs.lemmas.List.{nil_from_length}
use Rattle.std.proofs.lemmas.List.Elements.{All-nil, All-cons}
use Rattle.ot_isa.specs.declared.elements.Tag.{Tag}
use Rattle.ot_judge.specs.declared.fault.TraceFault.{TraceFault}
use Rattle.ot_judge.specs.declared.fault.TraceFault.TheVariants.{BadShape, TraceFull}
use Rattle.ot_model.specs.Trace.{EventView, TraceView, IsEvent, IsTrace}
use Rattle.ot_judge.specs.Making.{is_event, has_shape, is_full, named_tags, named_again, unless_again, trace_from}
use Rattle.ot_judge.proofs.Repeated.{again-none}
use Rattle.ot_judge.proofs.Whole.{distinct-once}

or_false : (a b : Bool) → (a || b) ≡ true → a ≡ false → b ≡ true
or_false a b h f = sym (ap (λ (x : Bool). x || b) f) ∙ h

-- a read that passes changes nothing
read_changes_nothing : (x : EventView) (a b : Bool) → (x.edit || (a && b)) ≡ true → x.edit ≡ false → (a ≡ true) × (b ≡ true)
read_changes_nothing x a b h read = and_parts a b (or_false x.edit (a && b) h read)

pub event_fits : (replicas : ℕ) (x : EventView) → is_event replicas x ≡ true → IsEvent replicas x
event_fits replicas x h =
    let small : Bool = nat_lt x.replica replicas in
    let long : Bool = length x.seen == replicas in
    let quiet : Bool = (length x.inserted == 0) && (length x.deleted == 0) in
    let parts = and_parts (small && long) (x.edit || quiet) h in
    let front = and_parts small long parts.0 in
    let empty = read_changes_nothing x (length x.inserted == 0) (length x.deleted == 0) parts.1 in
    record {
      replica = ltb-true x.replica replicas front.0;
      seen = eqb-true (length x.seen) replicas front.1;
      read_inserts = λ read. nil_from_length x.inserted (eqb-true (length x.inserted) 0 (empty read).0);
      read_deletes = λ read. nil_from_length x.deleted (eqb-true (length x.deleted) 0 (empty read).1);
    }

nothing : {A : Type 0} (xs : List A) → xs ≡ [] → (length xs == 0) ≡ true
nothing {A = A} xs h = ap (λ (ys : List A). length ys == 0) h

pub events_fit : (replicas : ℕ) (events : List EventView) → list_all (is_event replicas) events ≡ true → All (IsEvent replicas) events
events_fit replicas [] h = All-nil (IsEvent replicas)
events_fit replicas (x ∷ xs) h =
    let parts = and_parts (is_event replicas x) (list_all (is_event replicas) xs) h in
    All-cons (IsEvent replicas) x xs (event_fits replicas x parts.0) (events_fit replicas xs parts.1)

pub IsTrace-from : (t : TraceView) → has_shape t ≡ true → named_again t ≡ None → IsTrace t
IsTrace-from t shape once =
    let replicas : Bool = nat_lt 0 t.replicas && nat_lt t.replicas 66 in
    let parts = and_parts replicas (list_all (is_event t.replicas) t.events) shape in
    let range = and_parts (nat_lt 0 t.replicas) (nat_lt t.replicas 66) parts.0 in
    record {
      some_replica = omega (arith, ltb-true 0 t.replicas range.0);
      few_replicas = omega (arith, ltb-true t.replicas 66 range.1);
      inserted_once = distinct-once (named_tags t) (again-none [] (named_tags t) (λ q. omega arith) once);
      events = events_fit t.replicas t.events parts.1;
    }

unless-ok : (t u : TraceView) (o : Option Tag) → unless_again t o ≡ Ok u → o ≡ None
unless-ok t u None h = refl
unless-ok t u (Some a) h = absurd (let clash = h in cc)

-- what trace_from accepts is a trace
pub IsTrace-trace_from : (t u : TraceView) → trace_from t ≡ Ok u → IsTrace t
IsTrace-trace_from t u h =
    let v : Result TraceView TraceFault = unless_again t (named_again t) in
    elim (cases_Bool (has_shape t)) [
      | inr bad ↦ absurd (let clash = sym (ap (λ (b : Bool). cond b (cond (is_full t) (Err TraceFull) v) (Err BadShape)) bad) ∙ h in cc)
      | inl shape ↦
          let rest = sym (ap (λ (b : Bool). cond b (cond (is_full t) (Err TraceFull) v) (Err BadShape)) shape) ∙ h in
          elim (cases_Bool (is_full t)) [
            | inl full ↦ absurd (let clash = sym (ap (λ (b : Bool). cond b (Err TraceFull) v) full) ∙ rest in cc)
            | inr room ↦ IsTrace-from t shape (unless-ok t u (named_again t) (sym (ap (λ (b : Bool). cond b (Err TraceFull) v) room) ∙ rest))
          ]
    ]
