-- The authors of the elements of a run's documents.
use Rattle.std.proofs.Common.{◌≡◌, ℕ, suc, ◌<◌, List, [], ◌∷◌, length, take, drop, get_or, refl, sym, ap, ◌∙◌, subst, arith, inl, inr, Some, None, true}
use Rattle.std.proofs.lemmas.List.{get_or-set_same}
use Rattle.std.proofs.lemmas.Option.{same_Some, slice_get_within, slice_get-get_or}
use Rattle.std.specs.Prelude.{◌⊎◌, slice_get}
use Rattle.std.specs.Option.{option_map}
use Rattle.ot_isa.specs.Program.{Program, IsProgram}
use Rattle.ot_isa.specs.declared.elements.Tag.{Tag}
use Rattle.ot_isa.specs.declared.elements.Tagged.{Tagged}
use Rattle.ot_isa.specs.declared.instruction.Instr.{Instr}
use Rattle.ot_isa.specs.declared.instruction.Instr.TheVariants.{Edit}
use Rattle.ot_machine.specs.Effects.{list_of, IsThere}
use Rattle.ot_model.specs.declared.shown.Reader.{Reader}
use Rattle.ot_model.specs.declared.shown.Reader.TheVariants as reader
use Rattle.ot_model.specs.Events.{tags}
use Rattle.ot_model.specs.Operation.{IsOperation, Operation, apply, news}
use Rattle.ot_model.specs.Runs.{place_at}
use Rattle.ot_model.specs.Sound.{apply_entries, IsPhaseSound, IsSoundFrom}
use Rattle.ot_model.specs.Table.{Phase, NotJoined, Synchronized, AwaitingConfirm, AwaitingWithBuffer, Client, State, Place, Outcome, Performed, Refused, NoRow, absent, begin, edited, run, start_list, step, tag_operation, with_client, with_shown}
use Rattle.ot_model.specs.Trace.{contains}
use Rattle.ot_model.proofs.Algebra.{laws}
use Rattle.ot_model.proofs.Bridging.{contains_in, Has_in, in_contains, In_has, own_tags}
use Rattle.ot_model.proofs.Keeping.{from, order_laws}
use Rattle.ot_model.proofs.Known.{client_fits, document_has, vertex_known, HasNew_take}
use Rattle.ot_model.proofs.Outcomes.{by_edit}
use Rattle.ot_model.proofs.Readers.{moments}
use Rattle.ot_model.proofs.Runs.{run-append}
use Rattle.ot_model.proofs.States.{length-news-tag_items, take_entry, RisesFrom-tag_items}
use Rattle.ot_model.proofs.Tags.{log_tag, Has_start, HasNew_by}
use Rattle.ot_model.proofs.Traced.{runnable}
use Rattle.ot_model.proofs.Vertices.{Has, InPath, IsKnown, lifted, past_outstanding}
use Rattle.ot_report.specs.Authors.{author_of, inserters, AllHaveAuthors, EditsAreAuthors, IsIn}
use Rattle.ot_report.proofs.Inserters.{counts_at, count_in, instr_at, edit_inserts, inserted_before, none_inserted}

-- where the list has this number, this is the author
authored : (run : Program) (tag : Tag) (k : ℕ) → slice_get (inserters tag.origin 0 run.instrs) tag.serial ≡ Some k → author_of run.instrs tag ≡ Some (record { client = tag.origin; instruction = k })
authored run tag k at = ap (option_map (λ (n : ℕ). record { client = tag.origin; instruction = n })) at

unauthored : (run : Program) (tag : Tag) → inserters tag.origin 0 run.instrs ≡ [] → author_of run.instrs tag ≡ None
unauthored run tag none = ap (λ (numbers : List ℕ). option_map (λ (n : ℕ). record { client = tag.origin; instruction = n }) (slice_get numbers tag.serial)) none

sound_at : (run : Program) (p : ℕ) (q : Place) → IsProgram run → place_at run p ≡ Some q → IsSoundFrom (start_list run.start) run.start q.state
sound_at run p q limits at = (moments run p p q q (runnable run limits) (omega arith) at at).first.sound

Has_is : (t : Tag) (w : List Tagged) → contains (tags w) t ≡ true → Has t w
Has_is t w is = In_has t w (contains_in (tags w) t is)

is_Has : (t : Tag) (w : List Tagged) → Has t w → contains (tags w) t ≡ true
is_Has t w h = in_contains (tags w) t (Has_in t w h)

-- ---- the instructions of a schedule

instr_rises : (s : Program) → IsProgram s → (k c : ℕ) (op : Operation ℕ) → slice_get s.instrs k ≡ Some (Edit c op) → IsOperation op
instr_rises s limits k c op at = (instr_at s k (Edit c op) limits at).1.operation

-- ---- an edit

module _ (s : Program) (limits : IsProgram s) (k c : ℕ) (op : Operation ℕ) (q r : Place) (tag : Tag) (at : slice_get s.instrs k ≡ Some (Edit c op))
    (here : place_at s k ≡ Some q) (behind : place_at s (suc k) ≡ Some r) (now : IsIn r.state (reader.Client c) tag) (not_before : IsIn q.state (reader.Client c) tag → ⊥) where
  abbrev Wanted : Type 0
  Wanted = author_of s.instrs tag ≡ Some (record { client = c; instruction = k })

  -- where the instruction leads
  abbrev LeadsOn : Outcome → Type 0
  LeadsOn o = (elim o [ Performed t list ↦ Some (record { state = t; shown = with_shown q.shown list }) | Refused n ↦ None | NoRow ↦ None ]) ≡ Some r

  led : LeadsOn (step q.state (Edit c op))
  led = sym (run-append (take k s.instrs) (Edit c op ∷ []) _ q here) ∙ ap (λ (is : List Instr). run is (begin s.clients s.present s.start)) (sym (take_entry s.instrs k (Edit c op) at)) ∙ behind

  tag_is : (x : Client) → slice_get q.state.clients c ≡ Some x → Has tag (news (tag_operation c x.count op)) → Wanted
  tag_is x on new =
      let own = own_tags tag c x.count op.image new in
      let inside = slice_get_within q.state.clients c x on in
      let is : get_or q.state.clients c absent ≡ x = same_Some (get_or q.state.clients c absent) x (sym (slice_get-get_or q.state.clients c absent inside) ∙ on) in
      let count : x.count ≡ length (inserters c 0 (take k s.instrs)) = ap (λ (z : Client). z.count) (sym is) ∙ counts_at s k q c here in
      let many = length-news-tag_items c x.count op.image in
      let low = own.1 in
      let high = own.2 in
      let found : slice_get (inserters c 0 s.instrs) tag.serial ≡ Some k = edit_inserts c 0 k tag.serial s.instrs op at (omega arith) (omega arith) ∙ ap Some (omega arith) in
      subst (λ (n : ℕ). author_of s.instrs tag ≡ Some (record { client = n; instruction = k })) own.0
      (authored s tag k (ap (λ (n : ℕ). slice_get (inserters n 0 s.instrs) tag.serial) own.0 ∙ found))

  performed : (x : Client) → slice_get q.state.clients c ≡ Some x → op.base ≡ length x.list → LeadsOn (Performed (with_client q.state c (edited x (tag_operation c x.count op))) None) → Wanted
  performed x on base leads =
      let done = tag_operation c x.count op in
      let inside = slice_get_within q.state.clients c x on in
      let is : get_or q.state.clients c absent ≡ x = same_Some (get_or q.state.clients c absent) x (sym (slice_get-get_or q.state.clients c absent inside) ∙ on) in
      let state : with_client q.state c (edited x done) ≡ r.state = ap (λ (p : Place). p.state) (same_Some _ r leads) in
      let list : (get_or r.state.clients c absent).list ≡ apply done x.list =
      ap (λ (t : State). (get_or t.clients c absent).list) (sym state) ∙ ap (λ (z : Client). z.list) (get_or-set_same q.state.clients c (edited x done) absent inside) in
      let rising = RisesFrom-tag_items c x.count 0 op.base op.image (instr_rises s limits k c op at) in
      elim (from done x.list tag (record { rising = rising; base = base }) (subst (Has tag) list (Has_is tag _ now))) [
        | inl old ↦ absurd (not_before (is_Has tag _ (subst (λ (z : Client). Has tag z.list) (sym is) old)))
        | inr new ↦ tag_is x on new
      ]

  pub author_is : Wanted
  author_is = by_edit (λ o. LeadsOn o → Wanted) (λ n leads. absurd (cc)) q.state c op (λ x on below joined base few leads. performed x on base leads) led

pub edits_are_authors : EditsAreAuthors
edits_are_authors s k c before after tag limits (op, at) here behind now not_before =
    author_is s limits k c op (record { state = before; shown = here.shown }) (record { state = after; shown = behind.shown }) tag at here.at behind.at now not_before

-- ---- all elements

-- the operations, where a path begins
starts : (d : List Tagged) (es : List (Operation Tagged)) → InPath d d es
starts d [] = refl
starts d (e ∷ es) = inl refl

-- what a client's document has is its own, or the start's, or the log's
client_known : (start : List Tagged) (text : List ℕ) (s : State) (c : ℕ) (x : Client) (phase : Phase) (tag : Tag) → IsSoundFrom start text s → slice_get s.clients c ≡ Some x → x.phase ≡ phase
    → IsPhaseSound c phase start (take x.revision s.log) (drop x.revision s.log) x.list x.message → Has tag x.list → IsKnown start s c s.log tag
client_known start text s c x NotJoined tag sound at is now h =
    absurd (subst (λ (z : Client). Has tag z.list) (sound.absents c x at is).0 h)
client_known start text s c x Synchronized tag sound at is now h =
    elim (document_has laws order_laws start (take x.revision s.log) tag (client_fits laws order_laws start text s c x sound at).0 (rw now.list_is at h)) [
      | inl first ↦ inr (inl first)
      | inr new ↦ inr (inr (HasNew_take tag x.revision s.log new))
    ]
client_known start text s c x (AwaitingConfirm o) tag sound at is now h =
    let d = apply o (apply_entries start (take x.revision s.log)) in
    vertex_known laws order_laws start text s c x.list tag sound
    (inr (record { client = x; at = at; path = inl (rw (is, now.list_is) (starts d (past_outstanding c o (drop x.revision s.log)))) })) h
client_known start text s c x (AwaitingWithBuffer o b) tag sound at is now h =
    let d = apply b (apply o (apply_entries start (take x.revision s.log))) in
    vertex_known laws order_laws start text s c x.list tag sound
    (inr (record { client = x; at = at; path = inr (rw (is, now.list_is) (starts d (lifted b (past_outstanding c o (drop x.revision s.log))))) })) h

-- and what the server's has
list_known : (start : List Tagged) (text : List ℕ) (s : State) (who : Reader) (tag : Tag) → IsSoundFrom start text s → IsThere s who → Has tag (list_of s who) → (c : ℕ) × IsKnown start s c s.log tag
list_known start text s (reader.Client c) tag sound there h =
    let x = get_or s.clients c absent in
    let at = slice_get-get_or s.clients c absent there in
    (c, client_known start text s c x x.phase tag sound at refl (sound.clients c x at) h)
list_known start text s reader.Server tag sound there h = (0, inr (document_has laws order_laws start s.log tag sound.fit (rw sound.server at h)))

counted : (s : State) (c : ℕ) (x : Client) (tag : Tag) → slice_get s.clients c ≡ Some x → tag.serial < x.count → tag.serial < count_in s c
counted s c x tag at below =
    let inside = slice_get_within s.clients c x at in
    let is : get_or s.clients c absent ≡ x = same_Some (get_or s.clients c absent) x (sym (slice_get-get_or s.clients c absent inside) ∙ at) in
    omega (arith, below, ap (λ (z : Client). z.count) is)

-- it is of the start text, or its serial number is below its client's count
below_count : (start : List Tagged) (text : List ℕ) (s : State) (c : ℕ) (tag : Tag) → IsSoundFrom start text s → IsKnown start s c s.log tag → (tag.origin ≡ 65535) ⊎ (tag.serial < count_in s tag.origin)
below_count start text s c tag sound (inl own) = inr (counted s tag.origin own.client tag (ap (slice_get s.clients) own.origin ∙ own.at) own.serial)
below_count start text s c tag sound (inr (inl first)) = inl (Has_start tag 0 text (rw sound.tagged at first))
below_count start text s c tag sound (inr (inr new)) =
    let by = HasNew_by tag s.log new in
    let maker = log_tag start text s by.0 tag sound by.1 in
    inr (counted s tag.origin maker.0 tag (ap (slice_get s.clients) maker.2 ∙ maker.1) maker.3)

pub all_have_authors : AllHaveAuthors
all_have_authors s p state who tag limits here there now =
    let place : Place = record { state = state; shown = here.shown } in
    let sound = sound_at s p place limits here.at in
    let known = list_known (start_list s.start) s.start state who tag sound there (Has_is tag (list_of state who) now) in
    elim (below_count (start_list s.start) s.start state known.0 tag sound known.1) [
      | inl first ↦
          let few = limits.clients_to in
          let nothing = none_inserted s.clients tag.origin 0 s.instrs (omega (arith, few, first)) (λ n i at. (instr_at s n i limits at).0) in
          inl (first, unauthored s tag nothing)
      | inr below ↦
          let found = inserted_before tag.origin 0 p tag.serial s.instrs (omega (arith, below, counts_at s p place tag.origin here.at)) in
          inr (record { k = found.k; before = found.before; edit = (found.op, found.edit); author = authored s tag found.k (found.found ∙ ap Some (omega arith)) })
    ]
