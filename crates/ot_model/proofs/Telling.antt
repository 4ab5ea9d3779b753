-- Every event of a run is as the weak list property requires it.
use Rattle.std.proofs.Common.{◌≡◌, ℕ, zero, suc, ◌+◌, ◌-◌, ◌<◌, ◌≤◌, ◌≢◌, List, [], ◌∷◌, ◌++◌, length, take, drop, set, get_or, filter, refl, sym, ap, ◌∙◌, subst, arith, inl, inr, Option, Some, None, true, false, append_assoc, length-append, length-set, map, Bool}
use Rattle.std.proofs.lemmas.List.{append-nil, length_push, take_all, length-replicate}
use Rattle.std.proofs.lemmas.List.Elements.{filter-append}
use Rattle.std.proofs.lemmas.Bool.{cases_eq, cases_lt, eq-eqb, cond-true}
use Rattle.std.proofs.lemmas.Option.{slice_get_within, get_or_from_slice_get, same_Some}
use Rattle.std.specs.Prelude.{◌⊎◌, ◌↔◌, slice_get, not, ◌==◌, ◌&&◌}
use Rattle.ot_model.specs.Operation.{Operation, IsOperation, apply, inserted}
use Rattle.ot_isa.specs.declared.elements.Tag.{Tag}
use Rattle.ot_isa.specs.declared.elements.Tagged.{Tagged}
use Rattle.ot_model.specs.Table.{is_joined, Client, absent, State, Entry, Message, Outcome, Performed, Refused, NoRow, step, with_row, shows, with_client, edited, taken, delivered, acknowledged, joined, tag_operation, start_list, opening}
use Rattle.ot_isa.specs.declared.instruction.Instr.{Instr}
use Rattle.ot_isa.specs.declared.instruction.Instr.TheVariants.{Edit, Take, Deliver, Acknowledge, Join, Read, ReadServer}
use Rattle.ot_model.specs.declared.shown.Reader.TheVariants as reader
use Rattle.ot_server.specs.History.{transform_over}
use Rattle.ot_model.specs.Sound.{Fits, apply_entries, IsSoundFrom, IsInstr, AreInstrs}
use Rattle.ot_model.proofs.Algebra.{AlgebraLaws}
use Rattle.ot_model.proofs.Vertices.{Has, list_at, list_of, lists_from, AmongLists}
use Rattle.ot_model.specs.Trace.{EventView, contains}
use Rattle.ot_model.specs.declared.trace.Placed.{Placed}
use Rattle.ot_model.specs.Events.{Ledger, tags, counted, seen_from, insertions_from, event_of, events_from, events, no_edits, ledger_after, actor}
use Rattle.ot_model.proofs.Traces.{edits_of, In, Stands, Sees, KnowsInsert, KnowsDelete, IsWeakList, IsShapedTrace}
use Rattle.ot_model.proofs.Knowledge.{logged, with_own, IsInserted, Holds, KeepsBoth, made_by, IsCounted, sees, IsVisible, IsContent}
use Rattle.ot_model.proofs.States.{with_client_sound, joined_kept, acknowledged_kept, delivered_kept, taken_sound, edited_kept, slice_get-set_same, RisesFrom-tag_items}
use Rattle.ot_model.proofs.Outcomes.{by_edit, by_take, by_deliver, by_acknowledge, by_join, by_read, by_read_server}
use Rattle.ot_model.proofs.Steps.{opening_sound_from}
use Rattle.ot_model.proofs.Running.{one_on_sound, acknowledged_keeps, one_order}
use Rattle.ot_model.proofs.Keeping.{order_laws}
use Rattle.ot_model.proofs.Counting.{with_own_same, logged_high, entries_size, opening_counted, counted_edited, counted_delivered, counted_joined, counted_acknowledged, counted_taken, counted_read, ledger_edited, ledger_taken, ledger_acknowledged}
use Rattle.ot_model.proofs.Seeing.{seen_client, seen_server, none_made, opening_visible, visible_edited, visible_moved, visible_read, visible_taken}
use Rattle.ot_model.proofs.Tags.{Has_start}
use Rattle.ot_model.proofs.Shaping.{IsShaped, seen_size, insertion_in, insertions_once, start_serial, edit_index}
use Rattle.ot_model.proofs.Bridging.{inserts_in, own_tags, In_has, Has_in, Stands_before, Stands_twice}
use Rattle.ot_model.proofs.Places.{place_of}
use Rattle.ot_model.proofs.Holding.{IsClosed, own_few, own_closed, logged_few, logged_closed}
use Rattle.ot_model.proofs.Delivering.{content_delivered}
use Rattle.ot_model.proofs.Taking.{content_acknowledged, content_joined, content_taken}
use Rattle.ot_model.proofs.Editing.{edited_holds, seen_or_here, sees_next, content_edited, opening_content}

-- where a run stands, and the events so far
pub record IsTold (start : List Tagged) (text : List ℕ) (trace past : List EventView) (s : State) (l : Ledger) : Type 0 where
  pub sound : IsSoundFrom start text s
  pub counted : IsCounted past s l
  pub visible : IsVisible trace (length past) s l
  pub content : IsContent start trace s l

-- the property at one event
pub record IsFine (start : List Tag) (trace : List EventView) (p : ℕ) (e : EventView) : Type 0 where
  pub own : get_or e.seen e.replica 0 ≡ length (edits_of e.replica (take p trace))
  pub past : (r : ℕ) → get_or e.seen r 0 ≤ length (edits_of r (take p trace))
  pub closed : (d : EventView) (r k q : ℕ) → k < get_or e.seen r 0 → slice_get (edits_of r trace) k ≡ Some d → get_or d.seen q 0 ≤ get_or e.seen q 0
  pub later : (o : ℕ) (d : EventView) (q : ℕ) → slice_get trace o ≡ Some d → o < p → d.replica ≡ e.replica → get_or d.seen q 0 ≤ get_or e.seen q 0
  pub lists : (t : Tag) → In t e.list ↔ (KnowsInsert start trace p t × (KnowsDelete trace p t → ⊥))
  pub places : (i : ℕ) (n : Placed) → slice_get e.inserted i ≡ Some n → slice_get e.list n.place ≡ Some n.tag

-- lists of events
slice_get_middle : {X : Type 0} (xs ys zs : List X) (k : ℕ) → k < length ys → slice_get (xs ++ (ys ++ zs)) (length xs + k) ≡ slice_get ys k
slice_get_middle [] [] zs k below = absurd (omega arith)
slice_get_middle [] (y ∷ ys) zs zero below = refl
slice_get_middle [] (y ∷ ys) zs (suc k) below =
    let e : 0 + suc k ≡ suc (0 + k) = omega arith in
    ap (slice_get (y ∷ (ys ++ zs))) e ∙ slice_get_middle [] ys zs k (omega arith)
slice_get_middle {X = X} (x ∷ xs) ys zs k below =
    let e : length (x ∷ xs) + k ≡ suc (length xs + k) = omega arith in
    ap (slice_get (x ∷ (xs ++ (ys ++ zs)))) e ∙ slice_get_middle xs ys zs k below

slice_get_seam : {X : Type 0} (xs : List X) (y : X) (ys : List X) → slice_get (xs ++ y ∷ ys) (length xs) ≡ Some y
slice_get_seam [] y ys = refl
slice_get_seam (x ∷ xs) y ys = slice_get_seam xs y ys

take_seam : {X : Type 0} (xs ys : List X) → take (length xs) (xs ++ ys) ≡ xs
take_seam [] ys = take_zero ys
  where
    take_zero : {X : Type 0} (ys : List X) → take 0 ys ≡ []
    take_zero [] = refl
    take_zero (y ∷ ys) = refl
take_seam {X = X} (x ∷ xs) ys = ap (λ (zs : List X). x ∷ zs) (take_seam xs ys)

-- an edit is the one that comes after those made before it
edit_seam : (past rest : List EventView) (e : EventView) (c : ℕ) → e.replica ≡ c → e.edit ≡ true → slice_get (edits_of c (past ++ e ∷ rest)) (length (edits_of c past)) ≡ Some e
edit_seam past rest e c mine is =
    ap (λ (xs : List EventView). slice_get xs (length (edits_of c past)))
    (filter-append (λ d. (d.replica == c) && d.edit) past (e ∷ rest)
    ∙ ap (λ (xs : List EventView). edits_of c past ++ xs) (cond-true ((e.replica == c) && e.edit) (e ∷ edits_of c rest) (edits_of c rest) (rw (eq-eqb e.replica c mine, is) refl)))
    ∙ slice_get_seam (edits_of c past) e (edits_of c rest)

-- an event whose reader's knowledge is f before it, and g with it
event_fine : (start : List Tag) (trace past rest : List EventView) (e : EventView) (f g : ℕ → ℕ) (w : List Tagged) → trace ≡ past ++ e ∷ rest → ((q : ℕ) → get_or e.seen q 0 ≡ f q)
    → f e.replica ≡ length (edits_of e.replica past) → ((r : ℕ) → f r ≤ length (edits_of r past)) → IsClosed trace f
    → ((o : ℕ) (d : EventView) (q : ℕ) → o < length past → slice_get trace o ≡ Some d → d.replica ≡ e.replica → get_or d.seen q 0 ≤ f q)
    → ((r k : ℕ) → k < g r → (k < f r) ⊎ ((e.replica ≡ r) × (e.edit ≡ true) × (k ≡ length (edits_of r past))))
    → ((r k : ℕ) → (k < f r) ⊎ ((e.replica ≡ r) × (e.edit ≡ true) × (k ≡ length (edits_of r past))) → k < g r)
    → e.list ≡ tags w → Holds start trace g w → ((i : ℕ) (n : Placed) → slice_get e.inserted i ≡ Some n → slice_get e.list n.place ≡ Some n.tag)
    → IsFine start trace (length past) e
event_fine start trace past rest e f g w split is own few closed later sees_from sees_to list holds places =
    let before : take (length past) trace ≡ past = ap (take (length past)) split ∙ take_seam past (e ∷ rest) in
    let here : slice_get trace (length past) ≡ Some e = ap (λ (xs : List EventView). slice_get xs (length past)) split ∙ slice_get_seam past e rest in
    let made : (r : ℕ) → length (edits_of r (take (length past) trace)) ≡ length (edits_of r past) = λ r. ap (λ (xs : List EventView). length (edits_of r xs)) before in
    let up : (r k : ℕ) → k < g r → Sees trace (length past) r k = λ r k below. (
      e,
      here,
      elim (sees_from r k below) [
        | inl low ↦ let a = is r in inl (omega arith)
        | inr now ↦ inr (now.0, now.1, now.2 ∙ sym (made r))
      ],
    ) in
    let down : (r k : ℕ) → Sees trace (length past) r k → k < g r = λ r k known.
    let same : known.0 ≡ e = same_Some known.0 e (sym known.1 ∙ here) in
    elim known.2 [
      | inl low ↦ let a = is r in let b = ap (λ (d : EventView). get_or d.seen r 0) same in sees_to r k (inl (omega arith))
      | inr now ↦ sees_to r k (inr (ap (λ (d : EventView). d.replica) (sym same) ∙ now.0, ap (λ (d : EventView). d.edit) (sym same) ∙ now.1, now.2 ∙ made r))
    ] in
    let inserted_up : (t : Tag) → IsInserted start trace g t → KnowsInsert start trace (length past) t = λ t h. elim h [ inl first ↦ inl first | inr by ↦ inr (by.0, by.1, up by.0 by.1 by.2, by.3) ] in
    let inserted_down : (t : Tag) → KnowsInsert start trace (length past) t → IsInserted start trace g t = λ t h. elim h [ inl first ↦ inl first | inr by ↦ inr (by.0, by.1, down by.0 by.1 by.2, by.3) ] in
    record {
      own = is e.replica ∙ own ∙ sym (made e.replica);
      past = λ r. let a = is r in let b = few r in let d = made r in omega arith;
      closed = λ d r k q below at. let a = is r in let b = is q in let le = closed r k q d (omega arith) at in omega arith;
      later = λ o d q at below mine. let a = is q in let le = later o d q below at mine in omega arith;
      lists = λ t. (
        λ h.
            let held = In_has t w (subst (In t) list h) in
            (inserted_up t (holds.inserted t held), λ goes. holds.kept t held (goes.0, goes.1, down goes.0 goes.1 goes.2, goes.3)),
        λ h. subst (In t) (sym list) (Has_in t w (holds.here t (inserted_down t h.0) (λ goes. h.1 (goes.0, goes.1, up goes.0 goes.1 goes.2, goes.3)))),
      );
      places = places;
    }

-- what an instruction of client z leaves, and the event that it makes
pub record IsToldNext (start : List Tagged) (text : List ℕ) (trace past : List EventView) (s : State) (l : Ledger) (i : Instr) (z : Client) (t : State) : Type 0 where
  pub told : IsTold start text trace (past ++ event_of l i (length s.clients) z s) t (ledger_after l i z)
  pub fine : (k : ℕ) (e : EventView) → slice_get (event_of l i (length s.clients) z s) k ≡ Some e → IsFine (tags start) trace (length past + k) e
  pub shape : (k : ℕ) (e : EventView) → slice_get (event_of l i (length s.clients) z s) k ≡ Some e → IsShaped (suc (length s.clients)) (tags start) trace (length past + k) e
  pub clients : length t.clients ≡ length s.clients
  pub list : (k : ℕ) (e : EventView) → slice_get (event_of l i (length s.clients) z s) k ≡ Some e → (w : List Tagged) × AmongLists w (list_of t i) × (e.list ≡ tags w)

abbrev pub IsToldOutcome : List Tagged → List ℕ → List EventView → List EventView → State → Ledger → Instr → Client → Outcome → Type 0
IsToldOutcome start text trace past s l i z (Performed t shown) = (rest : List EventView) → trace ≡ past ++ (event_of l i (length s.clients) z s ++ rest) → IsToldNext start text trace past s l i z t
IsToldOutcome start text trace past s l i z (Refused r) = Unit {0}
IsToldOutcome start text trace past s l i z NoRow = Unit {0}

-- an instruction without an event
quiet_next : (start : List Tagged) (text : List ℕ) (trace past : List EventView) (s t : State) (l m : Ledger) → IsSoundFrom start text t → IsCounted past t m → IsVisible trace (length past) t m → IsContent start trace t m → IsTold start text trace (past ++ []) t m
quiet_next start text trace past s t l m sound told seen content =
    subst (λ (xs : List EventView). IsTold start text trace xs t m) (sym (append-nil past)) (record { sound = sound; counted = told; visible = seen; content = content })

-- the one event of an instruction
only_event : (P : ℕ → EventView → Type 0) (n : ℕ) (e : EventView) → P n e → (k : ℕ) (d : EventView) → slice_get (e ∷ []) k ≡ Some d → P (n + k) d
only_event P n e fine zero d at =
    let is : e ≡ d = same_Some e d at in
    let p : n ≡ n + 0 = omega arith in
    subst (λ (m : ℕ). P m d) p (subst (P n) is fine)
only_event P n e fine (suc k) d at = absurd (cc)

slice_get_left : {X : Type 0} (xs ys : List X) (k : ℕ) (x : X) → slice_get xs k ≡ Some x → slice_get (xs ++ ys) k ≡ Some x
slice_get_left [] ys k x e = absurd (cc)
slice_get_left (z ∷ xs) ys zero x e = e
slice_get_left (z ∷ xs) ys (suc k) x e = slice_get_left xs ys k x e

slice_get_first : {X : Type 0} (xs ys : List X) (k : ℕ) → k < length xs → slice_get (xs ++ ys) k ≡ slice_get xs k
slice_get_first [] ys k below = absurd (omega arith)
slice_get_first (z ∷ xs) ys zero below = refl
slice_get_first (z ∷ xs) ys (suc k) below = slice_get_first xs ys k (omega arith)

-- a read has the shape of an event
read_shaped : (replicas : ℕ) (start : List Tag) (trace : List EventView) (p : ℕ) (e : EventView) → e.replica < replicas → length e.seen ≡ replicas → e.inserted ≡ [] → e.deleted ≡ [] → IsShaped replicas start trace p e
read_shaped replicas start trace p e below size inserts deletes =
    let none : (t : Tag) → In t (map (λ i. i.tag) e.inserted) → ⊥ = λ t h. subst (λ (xs : List Placed). In t (map (λ i. i.tag) xs)) inserts h in
    record {
      replica = below;
      size = size;
      reads = λ is. (inserts, deletes);
      fresh = λ t h k. none t h;
      apart = λ o d t low at is h k. none t k;
      once = λ i j m n h k same. absurd (none m.tag (insertion_in e.inserted i m h));
    }

only_list_of : (e : EventView) (w : List Tagged) (lists : List (List Tagged)) → AmongLists w lists → e.list ≡ tags w → (k : ℕ) (d : EventView) → slice_get (e ∷ []) k ≡ Some d → (v : List Tagged) × AmongLists v lists × (d.list ≡ tags v)
only_list_of e w lists on is zero d at = (w, on, ap (λ (x : EventView). x.list) (sym (same_Some e d at)) ∙ is)
only_list_of e w lists on is (suc k) d at = absurd (cc)

list_at_one : (o : Option Client) (y : Client) → o ≡ Some y → AmongLists y.list (list_at o)
list_at_one None y e = absurd (cc)
list_at_one (Some x) y e = inl (ap (λ (z : Client). z.list) (same_Some x y e))

module _ (laws : AlgebraLaws) (keeps_both : KeepsBoth) (start : List Tagged) (text : List ℕ) (trace past : List EventView) (s : State) (l : Ledger) (told : IsTold start text trace past s l) (below : s.steps < 1000000) where
  edit_told : (c : ℕ) (x : Client) (op : Operation ℕ) → slice_get s.clients c ≡ Some x → IsOperation op → is_joined x.phase ≡ true → op.base ≡ length x.list → x.count + inserted op ≤ 15000
      → IsToldOutcome start text trace past s l (Edit c op) x (Performed (with_client s c (edited x (tag_operation c x.count op))) None)
  edit_told c x op at rising on base few = λ rest split.
      let done = tag_operation c x.count op in
      let y = edited x done in
      let n = length s.clients in
      let e : EventView =
      record {
        replica = c;
        edit = true;
        seen = seen_from c (made_by l c) 0 (suc n) (take x.revision l.entries);
        list = tags (apply done x.list);
        inserted = insertions_from 0 done.image;
        deleted = filter (λ t. not (contains (tags (apply done x.list)) t)) (tags x.list);
      } in
      let fits : Fits done x.list = record { rising = RisesFrom-tag_items c x.count 0 op.base op.image rising; base = base } in
      let sound = told.sound in
      let counts = told.counted in
      let visible = told.visible in
      let content = told.content in
      let kept = edited_kept laws start text s c x op sound at rising base few on in
      let sees_is = seen_client past s l c x counts at in
      let here : slice_get trace (length past) ≡ Some e = ap (λ (xs : List EventView). slice_get xs (length past)) split ∙ slice_get_seam past e rest in
      let edit_here : slice_get (edits_of c trace) (made_by l c) ≡ Some e = ap (λ (k : ℕ). slice_get (edits_of c trace) k) (counts.made c) ∙ ap (λ (xs : List EventView). slice_get (edits_of c xs) (length (edits_of c past))) split ∙ edit_seam past rest e c refl refl in
      let f = sees l c x in
      let g = with_own c (suc (made_by l c)) (logged l.entries x.revision) in
      let holds = edited_holds start text trace past (length past) s l sound counts visible content c x op e at fits sees_is refl refl edit_here on in
      let fine = event_fine (tags start) trace past rest e f g (apply done x.list) split sees_is
      (with_own_same c (made_by l c) (logged l.entries x.revision) ∙ counts.made c)
      (λ r. let a = own_few start trace past (length past) s l counts visible content c (made_by l c) x.revision r (omega arith) in let b = counts.made r in omega arith)
      (own_closed start trace past (length past) s l counts visible content c (made_by l c) x.revision x at (omega arith) (omega arith) (omega arith))
      (λ o d q low there by. visible.later c o q x d at low there by)
      (λ r k h. elim (seen_or_here start text trace past (length past) s l sound counts visible content c x op e at fits sees_is refl refl edit_here on r k h) [ inl low ↦ inl low | inr now ↦ inr (sym now.0, refl, now.1 ∙ counts.made c ∙ ap (λ (i : ℕ). length (edits_of i past)) (sym now.0)) ])
      (λ r k h. elim h [
        | inl low ↦ let up = sees_next start text trace past (length past) s l sound counts visible content c x op e at fits sees_is refl refl edit_here on r in omega arith
        | inr now ↦
            let own = with_own_same c (suc (made_by l c)) (logged l.entries x.revision) in
            let a = counts.made c in
            let b = now.2 in
            let d = ap (λ (i : ℕ). length (edits_of i past)) now.0 in
            subst (λ (i : ℕ). k < g i) now.0 (omega arith)
      ])
      refl holds
      (λ i m is. place_of done x.list i m fits is) in
      let inside = slice_get_within s.clients c x at in
      let most = sound.few in
      let shaped : IsShaped (suc n) (tags start) trace (length past) e =
      record {
        replica = omega arith;
        size = seen_size c (made_by l c) 0 (suc n) (take x.revision l.entries);
        reads = λ is. absurd (cc);
        fresh = λ t h first.
            let origin = (own_tags t c x.count op.image (inserts_in t 0 done.image h)).0 in
            let far = Has_start t 0 text (subst (λ (w : List Tagged). Has t w) sound.tagged (In_has t start first)) in
            absurd (omega arith);
        apart = λ o d t low there is in_d in_e.
            let in_past : slice_get past o ≡ Some d = sym (slice_get_first past (e ∷ rest) o low) ∙ ap (λ (xs : List EventView). slice_get xs o) (sym split) ∙ there in
            let index = edit_index past o d in_past is in
            let k = index.0 in
            let early = slice_get_within (edits_of d.replica past) k d index.1 in
            let edit : slice_get (edits_of d.replica trace) k ≡ Some d = ap (λ (xs : List EventView). slice_get xs k) (ap (edits_of d.replica) split ∙ filter-append (λ f. (f.replica == d.replica) && f.edit) past (e ∷ rest)) ∙ slice_get_left (edits_of d.replica past) (edits_of d.replica (e ∷ rest)) k d index.1 in
            let count = counts.made d.replica in
            let maker = content.own d.replica k t (omega arith) (d, edit, in_d) in
            let own = own_tags t c x.count op.image (inserts_in t 0 done.image in_e) in
            let same : d.replica ≡ c = sym maker.origin ∙ own.0 in
            let client : maker.client ≡ x = same_Some maker.client x (sym maker.at ∙ ap (λ (i : ℕ). slice_get s.clients i) same ∙ at) in
            let made = ap (λ (z : Client). z.count) client in
            let up = maker.serial in
            let down = own.1 in
            absurd (omega arith);
        once = λ i j m u h k same. insertions_once c x.count 0 op.image i j m u h k same;
      } in
      record {
        told = record {
          sound = with_client_sound start text s c x y sound below at kept;
          counted = counted_edited past s l c x done e counts at on refl refl;
          visible = subst (λ (k : ℕ). IsVisible trace k (with_client s c y) (ledger_edited l c x)) (let a = length_push past e in let b : suc (length past) ≡ length (past ++ e ∷ []) = omega arith in b)
              (visible_edited trace past (length past) s l c x done e counts visible at refl sees_is here edit_here);
          content = content_edited start text trace past (length past) s l sound counts visible content c x op e at fits sees_is refl refl edit_here on;
        };
        fine = only_event (IsFine (tags start) trace) (length past) e fine;
        clients = length-set s.clients c y;
        shape = only_event (IsShaped (suc (length s.clients)) (tags start) trace) (length past) e shaped;
        list = only_list_of e (apply done x.list) (list_of (with_client s c y) (Edit c op)) (list_at_one (slice_get (set s.clients c y) c) y (slice_get-set_same s.clients c x y at)) refl;
      }

  take_told : (c : ℕ) (x : Client) (m : Message) → slice_get s.clients c ≡ Some x → is_joined x.phase ≡ true → x.message ≡ Some m → IsToldOutcome start text trace past s l (Take c) x (Performed (taken s c x (transform_over m.op (drop m.revision s.log))) None)
  take_told c x m at on is = λ rest split.
      record {
        told = quiet_next start text trace past s _ l (ledger_taken l c)
            (taken_sound laws start text s c x m told.sound below at is)
            (counted_taken past s l c x _ told.counted at on)
            (visible_taken trace past (length past) s l c x _ told.counted told.visible at)
            (content_taken laws keeps_both start text trace past (length past) s l told.sound told.counted told.visible told.content c x m at on is);
        fine = λ k e there. absurd (cc);
        shape = λ k e there. absurd (cc);
        clients = length-set s.clients c _;
        list = λ k e there. absurd (cc);
      }

  deliver_told : (c : ℕ) (x : Client) (h : Entry) → slice_get s.clients c ≡ Some x → is_joined x.phase ≡ true → slice_get s.log x.revision ≡ Some h → h.maker ≢ c → IsToldOutcome start text trace past s l (Deliver c) x (Performed (with_client s c (delivered x h.op)) None)
  deliver_told c x h at on head other = λ rest split.
      record {
        told = quiet_next start text trace past s _ l l
            (with_client_sound start text s c x (delivered x h.op) told.sound below at (delivered_kept laws start text s c x h told.sound at head other on))
            (counted_delivered past s l c x h.op told.counted at on)
            (visible_moved trace past (length past) s l c x (delivered x h.op) l.buffered told.counted told.visible at (omega arith))
            (content_delivered laws keeps_both start text trace past (length past) s l told.sound told.counted told.visible told.content c x h at head other on);
        fine = λ k e there. absurd (cc);
        shape = λ k e there. absurd (cc);
        clients = length-set s.clients c _;
        list = λ k e there. absurd (cc);
      }

  acknowledge_told : (c : ℕ) (x : Client) (h : Entry) → slice_get s.clients c ≡ Some x → is_joined x.phase ≡ true → slice_get s.log x.revision ≡ Some h → h.maker ≡ c → IsToldOutcome start text trace past s l (Acknowledge c) x (with_row s c (acknowledged x x.phase))
  acknowledge_told c x h at on head mine =
      let kept = acknowledged_kept laws start text s c x h told.sound at head mine on in
      let y = kept.0 in
      rw kept.1 (λ rest split. record {
        told = quiet_next start text trace past s _ l (ledger_acknowledged l c)
            (with_client_sound start text s c x y told.sound below at kept.2)
            (counted_acknowledged past s l c x y told.counted at kept.1 (kept.2).joined)
            (visible_moved trace past (length past) s l c x y (set l.buffered c 0) told.counted told.visible at (let next = (acknowledged_keeps x y x.phase kept.1).0 in omega arith))
            (content_acknowledged laws keeps_both start text trace past (length past) s l told.sound told.counted told.visible told.content c x y h at head mine kept.1 on);
        fine = λ k e there. absurd (cc);
        shape = λ k e there. absurd (cc);
        clients = length-set s.clients c _;
        list = λ k e there. absurd (cc);
      })

  join_told : (c : ℕ) (x : Client) → slice_get s.clients c ≡ Some x → is_joined x.phase ≡ false → IsToldOutcome start text trace past s l (Join c) x (Performed (with_client s c (joined s x)) None)
  join_told c x at is = λ rest split.
      record {
        told = quiet_next start text trace past s _ l l
            (with_client_sound start text s c x (joined s x) told.sound below at (joined_kept start text s c x told.sound at is))
            (counted_joined past s l c x told.counted at)
            (visible_moved trace past (length past) s l c x (joined s x) l.buffered told.counted told.visible at ((told.sound).seen c x at))
            (content_joined laws keeps_both start text trace past (length past) s l told.sound told.counted told.visible told.content c x at is);
        fine = λ k e there. absurd (cc);
        shape = λ k e there. absurd (cc);
        clients = length-set s.clients c _;
        list = λ k e there. absurd (cc);
      }

  read_told : (c : ℕ) (x : Client) → slice_get s.clients c ≡ Some x → is_joined x.phase ≡ true → IsToldOutcome start text trace past s l (Read c) x (shows s (reader.Client c) x.list)
  read_told c x at on = λ rest split.
      let n = length s.clients in
      let e : EventView = record { replica = c; edit = false; seen = seen_from c (made_by l c) 0 (suc n) (take x.revision l.entries); list = tags x.list; inserted = []; deleted = [] } in
      let counts = told.counted in
      let visible = told.visible in
      let content = told.content in
      let sees_is = seen_client past s l c x counts at in
      let inside = slice_get_within s.clients c x at in
      let here : slice_get trace (length past) ≡ Some e = ap (λ (xs : List EventView). slice_get xs (length past)) split ∙ slice_get_seam past e rest in
      let f = sees l c x in
      let t : State = record { log = s.log; server = s.server; clients = s.clients; steps = suc s.steps } in
      let fine = event_fine (tags start) trace past rest e f f x.list split sees_is
      (with_own_same c (made_by l c) (logged l.entries x.revision) ∙ counts.made c)
      (λ r. let a = own_few start trace past (length past) s l counts visible content c (made_by l c) x.revision r (omega arith) in let b = counts.made r in omega arith)
      (own_closed start trace past (length past) s l counts visible content c (made_by l c) x.revision x at (omega arith) (omega arith) (omega arith))
      (λ o d q low there by. visible.later c o q x d at low there by)
      (λ r k h. inl h)
      (λ r k h. elim h [ inl low ↦ low | inr now ↦ absurd (let is = now.1 in cc) ])
      refl (content.lists c x at on)
      (λ i m is. absurd (cc)) in
      record {
        told = record {
          sound = one_on_sound start text s told.sound below;
          counted = counted_read past s t l e counts refl refl refl;
          visible = subst (λ (k : ℕ). IsVisible trace k t l) (let a = length_push past e in let b : suc (length past) ≡ length (past ++ e ∷ []) = omega arith in b)
              (visible_read trace past (length past) s t l e counts visible refl here
              (λ d z at_d by q. let same : z ≡ x = same_Some z x (sym at_d ∙ ap (λ (k : ℕ). slice_get s.clients k) (sym by) ∙ at) in let a = sees_is q in let b : sees l d z q ≡ sees l c x q = ap (λ (k : ℕ). sees l k z q) (sym by) ∙ ap (λ (v : Client). sees l c v q) same in omega arith)
              (λ by q. absurd (omega arith)));
          content = record { own = λ r k u low made. let o = content.own r k u low made in record { client = o.client; at = o.at; origin = o.origin; serial = o.serial }; causal = content.causal; documents = content.documents; lists = content.lists; firsts = content.firsts };
        };
        fine = only_event (IsFine (tags start) trace) (length past) e fine;
        clients = refl;
        shape = only_event (IsShaped (suc (length s.clients)) (tags start) trace) (length past) e (read_shaped (suc n) (tags start) trace (length past) e (omega arith) (seen_size c (made_by l c) 0 (suc n) (take x.revision l.entries)) refl refl);
        list = only_list_of e x.list (list_of t (Read c)) (list_at_one (slice_get s.clients c) x at) refl;
      }

  read_server_told : (z : Client) → IsToldOutcome start text trace past s l ReadServer z (shows s reader.Server s.server)
  read_server_told z = λ rest split.
      let n = length s.clients in
      let e : EventView = record { replica = n; edit = false; seen = seen_from n 0 0 (suc n) l.entries; list = tags s.server; inserted = []; deleted = [] } in
      let counts = told.counted in
      let visible = told.visible in
      let content = told.content in
      let all = length l.entries in
      let whole : (q : ℕ) → logged l.entries all q ≡ counted q 0 l.entries = λ q. logged_high l.entries all q (omega arith) in
      let sees_is : (q : ℕ) → get_or e.seen q 0 ≡ logged l.entries all q = λ q. seen_server past s l counts q ∙ sym (whole q) in
      let here : slice_get trace (length past) ≡ Some e = ap (λ (xs : List EventView). slice_get xs (length past)) split ∙ slice_get_seam past e rest in
      let none = none_made past s l n counts (omega arith) in
      let size = entries_size past s l counts in
      let doc : apply_entries start (take all s.log) ≡ s.server = ap (apply_entries start) (take_all all s.log (omega arith)) ∙ sym (told.sound).server in
      let t : State = record { log = s.log; server = s.server; clients = s.clients; steps = suc s.steps } in
      let fine = event_fine (tags start) trace past rest e (logged l.entries all) (logged l.entries all) s.server split sees_is
      (let a = logged_few start trace past (length past) s l counts visible content all n in let b : logged l.entries all n ≡ made_by l n = omega arith in b ∙ counts.made n)
      (λ r. let a = logged_few start trace past (length past) s l counts visible content all r in let b = counts.made r in omega arith)
      (logged_closed start trace past (length past) s l counts visible content all)
      (λ o d q low there by. let a = visible.server o q d low there by in let b = whole q in omega arith)
      (λ r k h. inl h)
      (λ r k h. elim h [ inl low ↦ low | inr now ↦ absurd (let is = now.1 in cc) ])
      refl (subst (λ (w : List Tagged). Holds (tags start) trace (logged l.entries all) w) doc (content.documents all (omega arith)))
      (λ i m is. absurd (cc)) in
      record {
        told = record {
          sound = one_on_sound start text s told.sound below;
          counted = counted_read past s t l e counts refl refl refl;
          visible = subst (λ (k : ℕ). IsVisible trace k t l) (let a = length_push past e in let b : suc (length past) ≡ length (past ++ e ∷ []) = omega arith in b)
              (visible_read trace past (length past) s t l e counts visible refl here
              (λ d y at_d by q. let inside = slice_get_within s.clients d y at_d in absurd (omega arith))
              (λ by q. let a = sees_is q in let b = whole q in omega arith));
          content = record { own = λ r k u low made. let o = content.own r k u low made in record { client = o.client; at = o.at; origin = o.origin; serial = o.serial }; causal = content.causal; documents = content.documents; lists = content.lists; firsts = content.firsts };
        };
        fine = only_event (IsFine (tags start) trace) (length past) e fine;
        clients = refl;
        shape = only_event (IsShaped (suc (length s.clients)) (tags start) trace) (length past) e (read_shaped (suc n) (tags start) trace (length past) e (omega arith) (seen_size n 0 0 (suc n) l.entries) refl refl);
        list = only_list_of e s.server (list_of t ReadServer) (inl refl) refl;
      }

-- what a place in a longer list holds
AmongLists_left : (w : List Tagged) (xs ys : List (List Tagged)) → AmongLists w xs → AmongLists w (xs ++ ys)
AmongLists_left w [] ys h = absurd h
AmongLists_left w (x ∷ xs) ys (inl here) = inl here
AmongLists_left w (x ∷ xs) ys (inr there) = inr (AmongLists_left w xs ys there)

AmongLists_right : (w : List Tagged) (xs ys : List (List Tagged)) → AmongLists w ys → AmongLists w (xs ++ ys)
AmongLists_right w [] ys h = h
AmongLists_right w (x ∷ xs) ys h = inr (AmongLists_right w xs ys h)

module _ (laws : AlgebraLaws) (keeps_both : KeepsBoth) (start : List Tagged) (text : List ℕ) (trace : List EventView) where
  pub step_told : (past : List EventView) (s : State) (l : Ledger) (i : Instr) → IsTold start text trace past s l → IsInstr i → IsToldOutcome start text trace past s l i (actor i s.clients absent) (step s i)
  step_told past s l (Edit c op) told is = by_edit (IsToldOutcome start text trace past s l (Edit c op) (get_or s.clients c absent)) (λ r. tt) s c op (λ x at below on base few.
      rw (get_or_from_slice_get s.clients c x absent at) (edit_told laws keeps_both start text trace past s l told below c x op at is on base few))
  step_told past s l (Take c) told is = by_take (IsToldOutcome start text trace past s l (Take c) (get_or s.clients c absent)) (λ r. tt) s c (λ x m at below on sent.
      rw (get_or_from_slice_get s.clients c x absent at) (take_told laws keeps_both start text trace past s l told below c x m at on sent))
  step_told past s l (Deliver c) told is = by_deliver (IsToldOutcome start text trace past s l (Deliver c) (get_or s.clients c absent)) (λ r. tt) s c (λ x h at below on head other.
      rw (get_or_from_slice_get s.clients c x absent at) (deliver_told laws keeps_both start text trace past s l told below c x h at on head other))
  step_told past s l (Acknowledge c) told is = by_acknowledge (IsToldOutcome start text trace past s l (Acknowledge c) (get_or s.clients c absent)) (λ r. tt) s c (λ x h at below on head own.
      rw (get_or_from_slice_get s.clients c x absent at) (acknowledge_told laws keeps_both start text trace past s l told below c x h at on head own))
  step_told past s l (Join c) told is = by_join (IsToldOutcome start text trace past s l (Join c) (get_or s.clients c absent)) (λ r. tt) s c (λ x at below off.
      rw (get_or_from_slice_get s.clients c x absent at) (join_told laws keeps_both start text trace past s l told below c x at off))
  step_told past s l (Read c) told is = by_read (IsToldOutcome start text trace past s l (Read c) (get_or s.clients c absent)) (λ r. tt) s c (λ x at below on.
      rw (get_or_from_slice_get s.clients c x absent at) (read_told laws keeps_both start text trace past s l told below c x at on))
  step_told past s l ReadServer told is = by_read_server (IsToldOutcome start text trace past s l ReadServer absent) (λ r. tt) s (λ below. read_server_told laws keeps_both start text trace past s l told below absent)

  -- each event from here on
  pub all_told : (is : List Instr) (past : List EventView) (s : State) (l : Ledger) → IsTold start text trace past s l → AreInstrs is → trace ≡ past ++ events_from s l is → (p : ℕ) (e : EventView) → length past ≤ p → slice_get trace p ≡ Some e
      → IsFine (tags start) trace p e × IsShaped (suc (length s.clients)) (tags start) trace p e × ((w : List Tagged) × AmongLists w (lists_from s is) × (e.list ≡ tags w))
  all_told [] past s l told all split p e le at =
      let within = slice_get_within trace p e at in
      let same = ap length (split ∙ append-nil past) in
      absurd (omega arith)
  all_told (i ∷ is) past s l told all split p e le at =
      go (λ past' t m next eq far. all_told is past' t m next all.1 eq p e far at) (step s i) (step_told past s l i told all.0) split
    where
      go : ((past' : List EventView) (t : State) (m : Ledger) → IsTold start text trace past' t m → trace ≡ past' ++ events_from t m is → length past' ≤ p → IsFine (tags start) trace p e × IsShaped (suc (length t.clients)) (tags start) trace p e × ((w : List Tagged) × AmongLists w (lists_from t is) × (e.list ≡ tags w)))
          → (o : Outcome) → IsToldOutcome start text trace past s l i (actor i s.clients absent) o
          → trace ≡ past ++ (elim o [ Performed t shown ↦ event_of l i (length s.clients) (actor i s.clients absent) s ++ events_from t (ledger_after l i (actor i s.clients absent)) is | Refused r ↦ [] | NoRow ↦ [] ])
          → IsFine (tags start) trace p e × IsShaped (suc (length s.clients)) (tags start) trace p e × ((w : List Tagged) × AmongLists w (elim o [ Performed t shown ↦ list_of t i ++ lists_from t is | Refused r ↦ [] | NoRow ↦ [] ]) × (e.list ≡ tags w))
      go later (Refused r) next eq = absurd (let within = slice_get_within trace p e at in let same = ap length (eq ∙ append-nil past) in omega arith)
      go later NoRow next eq = absurd (let within = slice_get_within trace p e at in let same = ap length (eq ∙ append-nil past) in omega arith)
      go later (Performed t shown) next eq =
          let z = actor i s.clients absent in
          let now = event_of l i (length s.clients) z s in
          let rest = events_from t (ledger_after l i z) is in
          let facts = next rest eq in
          let size = length-append past now in
          elim (cases_lt p (length past + length now)) [
            | inl here ↦
                let k = p - length past in
                let p_is : length past + k ≡ p = omega arith in
                let found : slice_get now k ≡ Some e = sym (slice_get_middle past now rest k (omega arith)) ∙ ap (slice_get (past ++ (now ++ rest))) p_is ∙ ap (λ (xs : List EventView). slice_get xs p) (sym eq) ∙ at in
                let list = facts.list k e found in
                (subst (λ (q : ℕ). IsFine (tags start) trace q e) p_is (facts.fine k e found), subst (λ (q : ℕ). IsShaped (suc (length s.clients)) (tags start) trace q e) p_is (facts.shape k e found), (list.0, AmongLists_left list.0 (list_of t i) (lists_from t is) list.1, list.2))
            | inr there ↦
                let on = later (past ++ now) t (ledger_after l i z) facts.told (eq ∙ sym (append_assoc past now rest)) (omega arith) in
                (on.0, subst (λ (q : ℕ). IsShaped (suc q) (tags start) trace p e) facts.clients on.1, ((on.2).0, AmongLists_right (on.2).0 (list_of t i) (lists_from t is) (on.2).1, (on.2).2))
          ]

-- each event of a run
each_event : AlgebraLaws → KeepsBoth → (clients present : ℕ) (text : List ℕ) (is : List Instr) → clients ≤ 64 → present ≤ clients → length text ≤ 40000 → AreInstrs is → (p : ℕ) (e : EventView) → slice_get (events clients present text is) p ≡ Some e
    → IsFine (tags (start_list text)) (events clients present text is) p e × IsShaped (suc clients) (tags (start_list text)) (events clients present text is) p e × ((w : List Tagged) × AmongLists w (lists_from (opening clients present text) is) × (e.list ≡ tags w))
each_event laws keeps_both clients present text is few within short all p e at =
    let start = start_list text in
    let trace = events clients present text is in
    let l : Ledger = no_edits clients in
    let s = opening clients present text in
    let told : IsTold start text trace [] s l =
    record { sound = opening_sound_from clients present text few within short; counted = opening_counted clients present text within; visible = opening_visible trace clients present text; content = opening_content clients present text trace } in
    let found = all_told laws keeps_both start text trace is [] s l told all refl p e (omega arith) at in
    (found.0, subst (λ (n : ℕ). IsShaped (suc n) (tags start) trace p e) (sym (told.counted).made_size ∙ length-replicate clients _) found.1, found.2)

-- every run has the weak list property
pub weak_list : AlgebraLaws → KeepsBoth → (clients present : ℕ) (text : List ℕ) (is : List Instr) → clients ≤ 64 → present ≤ clients → length text ≤ 40000 → AreInstrs is → IsWeakList (tags (start_list text)) (events clients present text is)
weak_list laws keeps_both clients present text is few within short all =
    let start = start_list text in
    let trace = events clients present text is in
    let s = opening clients present text in
    let each : (p : ℕ) (e : EventView) → slice_get trace p ≡ Some e → IsFine (tags start) trace p e × IsShaped (suc clients) (tags start) trace p e × ((w : List Tagged) × AmongLists w (lists_from s is) × (e.list ≡ tags w)) = each_event laws keeps_both clients present text is few within short all in
    let ordered : (p q : ℕ) (e d : EventView) (a b : Tag) → slice_get trace p ≡ Some e → slice_get trace q ≡ Some d → Stands a b e.list → Stands b a d.list → ⊥ = λ p q e d a b at at' h k.
    let v = (each p e at).2 in
    let w = (each q d at').2 in
    one_order laws order_laws clients present text is v.0 w.0 few within short all v.1 w.1 a b (Stands_before a b v.0 (subst (Stands a b) v.2 h)) (Stands_before b a w.0 (subst (Stands b a) w.2 k)) in
    record {
      visible = record {
        own = λ p e at. (each p e at).0.own;
        past = λ p e r at. (each p e at).0.past r;
        closed = λ p e d r k q at below edit. (each p e at).0.closed d r k q below edit;
        later = λ p o e d q at at' before mine. (each p e at).0.later o d q at' before mine;
      };
      listed = record {
        once = λ p e i j t at at_i at_j. elim (cases_eq i j) [
          | inl same ↦ same
          | inr other ↦ elim (cases_lt i j) [
            | inl below ↦ let twice = Stands_twice t e.list i j below at_i at_j in absurd (ordered p p e e t t at at twice twice)
            | inr above ↦ let twice = Stands_twice t e.list j i (omega arith) at_j at_i in absurd (ordered p p e e t t at at twice twice)
          ]
        ];
        places = λ p e i n at is_at. (each p e at).0.places i n is_at;
        order = ordered;
      };
      holds = λ p e t at. (each p e at).0.lists t;
    }

-- the trace of a run is one: no tag is inserted twice, and the start has none twice
pub is_trace : AlgebraLaws → KeepsBoth → (clients present : ℕ) (text : List ℕ) (is : List Instr) → clients ≤ 64 → present ≤ clients → length text ≤ 40000 → AreInstrs is → IsShapedTrace (suc clients) (tags (start_list text)) (events clients present text is)
is_trace laws keeps_both clients present text is few within short all =
    let start = start_list text in
    let trace = events clients present text is in
    let each : (p : ℕ) (e : EventView) → slice_get trace p ≡ Some e → IsShaped (suc clients) (tags start) trace p e = λ p e at. (each_event laws keeps_both clients present text is few within short all p e at).1 in
    -- what inserts is an edit
    let apart : (p q i j : ℕ) (e d : EventView) (m n : Placed) → p < q → slice_get trace p ≡ Some e → slice_get trace q ≡ Some d → slice_get e.inserted i ≡ Some m → slice_get d.inserted j ≡ Some n → m.tag ≡ n.tag → ⊥ = λ p q i j e d m n below at at' h k same.
    (each q d at').apart p e n.tag below at (an_edit e i m e.edit refl h (each p e at).reads) (subst (λ (t : Tag). In t (map (λ x. x.tag) e.inserted)) same (insertion_in e.inserted i m h)) (insertion_in d.inserted j n k) in
    record {
      replica = λ p e at. (each p e at).replica;
      size = λ p e at. (each p e at).size;
      reads = λ p e at is. (each p e at).reads is;
      start_once = λ i j t h k. let a = start_serial 0 text i t h in let b = start_serial 0 text j t k in omega arith;
      fresh = λ p i e n at h first. (each p e at).fresh n.tag (insertion_in e.inserted i n h) first;
      once = λ p q i j e d m n at at' h k same. elim (cases_eq p q) [
        | inl here ↦
            let is : d ≡ e = same_Some d e (sym at' ∙ ap (slice_get trace) (sym here) ∙ at) in
            (here, (each p e at).once i j m n h (ap (λ (f : EventView). slice_get f.inserted j) (sym is) ∙ k) same)
        | inr other ↦ elim (cases_lt p q) [
          | inl below ↦ absurd (apart p q i j e d m n below at at' h k same)
          | inr above ↦ absurd (apart q p j i d e n m (omega arith) at' at k h (sym same))
        ]
      ];
    }
  where
    an_edit : (e : EventView) (i : ℕ) (n : Placed) (b : Bool) → e.edit ≡ b → slice_get e.inserted i ≡ Some n → (e.edit ≡ false → (e.inserted ≡ []) × (e.deleted ≡ [])) → e.edit ≡ true
    an_edit e i n true is h reads = is
    an_edit e i n false is h reads = absurd (let none : slice_get [] i ≡ Some n = ap (λ (xs : List Placed). slice_get xs i) (sym (reads is).0) ∙ h in cc)
