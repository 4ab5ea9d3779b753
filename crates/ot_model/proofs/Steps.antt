-- Every state of every run is sound, and what follows.
use Rattle.std.proofs.Common.{◌≡◌, ℕ, zero, suc, ◌<◌, ◌≤◌, List, [], ◌∷◌, ◌++◌, length, take, drop, refl, sym, ap, ◌∙◌, subst, arith, inl, inr, Option, Some, None, true, ◌-◌, length-append}
use Rattle.std.proofs.lemmas.List.{append-nil, take-append-drop, length-replicate}
use Rattle.std.proofs.lemmas.Option.{same_Some}
use Rattle.std.proofs.lemmas.List.Sums.{sum_by-cons, sum_by-append}
use Rattle.std.specs.Prelude.{◌⊎◌, slice_get, sum_by, replicate}
use Rattle.ot_model.specs.Table.{Phase, NotJoined, Synchronized, AwaitingConfirm, AwaitingWithBuffer, is_joined, Client, absent, present_with, State, Entry, Message, Outcome, Performed, Refused, NoRow, Place, with_shown, opening, start_list, step, run, begin, shows, edited, delivered, joined, tag_operation, IsQuiet}
use Rattle.ot_isa.specs.declared.elements.Tagged.{Tagged}
use Rattle.ot_isa.specs.declared.instruction.Instr.{Instr}
use Rattle.ot_isa.specs.declared.instruction.Instr.TheVariants.{Edit, Take, Deliver, Acknowledge, Join, Read, ReadServer}
use Rattle.ot_model.specs.declared.shown.Reader.{Reader}
use Rattle.ot_model.specs.declared.shown.Reader.TheVariants as reader
use Rattle.ot_isa.specs.Tagging.{tagged_chars}
use Rattle.ot_model.specs.Sound.{apply_entries, IsPhaseSound, IsClientSound, IsAbsentSound, IsOwn, pending, IsSoundFrom, IsSound, IsInstr, AreInstrs, IsOutcomeSound}
use Rattle.ot_model.proofs.Algebra.{AlgebraLaws}
use Rattle.ot_model.proofs.Outcomes.{by_edit, by_take, by_deliver, by_acknowledge, by_join, by_read, by_read_server}
use Rattle.ot_model.proofs.States.{with_client_sound, joined_kept, acknowledged_kept, delivered_kept, taken_sound, edited_kept}

-- the opening
length-start_from : (k : ℕ) (text : List ℕ) → length (tagged_chars 65535 k text) ≡ length text
length-start_from k [] = refl
length-start_from k (ch ∷ text) = ap suc (length-start_from (suc k) text)

pub slice_get-replicate : {X : Type 0} (n c : ℕ) (x y : X) → slice_get (replicate n x) c ≡ Some y → x ≡ y
slice_get-replicate zero c x y e = absurd (cc)
slice_get-replicate (suc n) zero x y e = same_Some x y e
slice_get-replicate (suc n) (suc c) x y e = slice_get-replicate n c x y e

sum_by-replicate : {X : Type 0} (f : X → ℕ) (n : ℕ) (x : X) → f x ≡ 0 → sum_by f (replicate n x) ≡ 0
sum_by-replicate f zero x e = refl
sum_by-replicate f (suc n) x e = sum_by-cons f x (replicate n x) ∙ (let rest = sum_by-replicate f n x e in omega arith)

-- a client at the opening is present, or it is absent
slice_get-opening : {X : Type 0} (m n c : ℕ) (x z y : X) → slice_get (replicate m x ++ replicate n z) c ≡ Some y → (x ≡ y) ⊎ (z ≡ y)
slice_get-opening zero n c x z y e = inr (slice_get-replicate n c z y e)
slice_get-opening (suc m) n zero x z y e = inl (same_Some x y e)
slice_get-opening (suc m) n (suc c) x z y e = slice_get-opening m n c x z y e

pub each_opening : (P : ℕ → Client → Type 0) (clients present : ℕ) (text : List ℕ) → ((c : ℕ) → P c (present_with (start_list text))) → ((c : ℕ) → P c absent)
    → (c : ℕ) (x : Client) → slice_get (opening clients present text).clients c ≡ Some x → P c x
each_opening P clients present text here there c x at = elim (slice_get-opening present (clients - present) c (present_with (start_list text)) absent x at) [
  | inl is ↦ subst (P c) is (here c)
  | inr is ↦ subst (P c) is (there c)
]

pub opening_sound_from : (clients present : ℕ) (text : List ℕ) → clients ≤ 64 → present ≤ clients → length text ≤ 40000 → IsSoundFrom (start_list text) text (opening clients present text)
opening_sound_from clients present text few within short =
    let x = present_with (start_list text) in
    record {
      tagged = refl;
      short = rw length-start_from short;
      few = rw (length-append, length-replicate, length-replicate) (omega arith);
      fit = tt;
      server = refl;
      makers = λ k d below. absurd (omega arith);
      seen = each_opening (λ c z. z.revision ≤ 0) clients present text (λ c. omega arith) (λ c. omega arith);
      clients = each_opening (λ c z. IsClientSound c (start_list text) (take z.revision []) (drop z.revision []) z) clients present text (λ c. record { list_is = refl; message_is = refl; none = tt }) (λ c. tt);
      absents = each_opening (λ c z. IsAbsentSound c [] z) clients present text (λ c e. absurd (cc)) (λ c e. (refl, tt));
      own = each_opening (λ c z. IsOwn c [] z) clients present text (λ c t. omega arith) (λ c t. omega arith);
      counts = each_opening (λ c z. z.count ≤ 15000) clients present text (λ c. omega arith) (λ c. omega arith);
      room = rw (sum_by-append pending (replicate present x) (replicate (clients - present) absent), sum_by-replicate pending present x refl, sum_by-replicate pending (clients - present) absent refl) (omega arith);
      logged = omega arith;
      steps = omega arith;
    }

pub opening_sound : (clients present : ℕ) (text : List ℕ) → clients ≤ 64 → present ≤ clients → length text ≤ 40000 → IsSound (opening clients present text)
opening_sound clients present text few within short = (start_list text, text, opening_sound_from clients present text few within short)

-- a read changes nothing but the count of steps
one_on_sound : (start : List Tagged) (text : List ℕ) (s : State) (who : Reader) (list : List Tagged) → IsSoundFrom start text s → s.steps < 1000000 → IsOutcomeSound (shows s who list)
one_on_sound start text s who list sound below = (
  start,
  text,
  record {
    tagged = sound.tagged;
    short = sound.short;
    few = sound.few;
    fit = sound.fit;
    server = sound.server;
    makers = sound.makers;
    seen = sound.seen;
    clients = sound.clients;
    absents = sound.absents;
    own = sound.own;
    counts = sound.counts;
    room = sound.room;
    logged = omega arith;
    steps = omega arith;
  },
)

module _ (laws : AlgebraLaws) where
  -- each row leads from a sound state to a sound one, and an acknowledgement in Synchronized never comes
  pub step_sound : (s : State) (i : Instr) → IsSound s → IsInstr i → IsOutcomeSound (step s i)
  step_sound s (Edit c op) (start, text, sound) is = by_edit IsOutcomeSound (λ r. tt) s c op (λ x at below on base few.
      (start, text, with_client_sound start text s c x (edited x (tag_operation c x.count op)) sound below at (edited_kept laws start text s c x op sound at is base few on)))
  step_sound s (Take c) (start, text, sound) is = by_take IsOutcomeSound (λ r. tt) s c (λ x m at below on sent.
      (start, text, taken_sound laws start text s c x m sound below at sent))
  step_sound s (Deliver c) (start, text, sound) is = by_deliver IsOutcomeSound (λ r. tt) s c (λ x h at below on head other.
      (start, text, with_client_sound start text s c x (delivered x h.op) sound below at (delivered_kept laws start text s c x h sound at head other on)))
  step_sound s (Acknowledge c) (start, text, sound) is = by_acknowledge IsOutcomeSound (λ r. tt) s c (λ x h at below on head own.
      let kept = acknowledged_kept laws start text s c x h sound at head own on in
      rw kept.1 (start, text, with_client_sound start text s c x kept.0 sound below at kept.2))
  step_sound s (Join c) (start, text, sound) is = by_join IsOutcomeSound (λ r. tt) s c (λ x at below off.
      (start, text, with_client_sound start text s c x (joined s x) sound below at (joined_kept start text s c x sound at off)))
  step_sound s (Read c) (start, text, sound) is = by_read IsOutcomeSound (λ r. tt) s c (λ x at below on. one_on_sound start text s (reader.Client c) x.list sound below)
  step_sound s ReadServer (start, text, sound) is = by_read_server IsOutcomeSound (λ r. tt) s (λ below. one_on_sound start text s reader.Server s.server sound below)

-- where no message is under way, all links are empty and all are synchronized, every list is the server's
synchronized_list : (c : ℕ) (phase : Phase) (start : List Tagged) (seen ahead : List Entry) (list : List Tagged) (message : Option Message) → phase ≡ Synchronized → IsPhaseSound c phase start seen ahead list message → list ≡ apply_entries start seen
synchronized_list c NotJoined start seen ahead list message e sound = absurd (cc)
synchronized_list c Synchronized start seen ahead list message e sound = sound.list_is
synchronized_list c (AwaitingConfirm o) start seen ahead list message e sound = absurd (cc)
synchronized_list c (AwaitingWithBuffer o b) start seen ahead list message e sound = absurd (cc)

pub quiet_same : (s : State) → IsSound s → IsQuiet s → (c : ℕ) (x : Client) → slice_get s.clients c ≡ Some x → is_joined x.phase ≡ true → x.list ≡ s.server
quiet_same s (start, text, sound) quiet c x at on =
    let q = quiet c x at on in
    let all : take x.revision s.log ≡ s.log = sym (append-nil (take x.revision s.log)) ∙ ap (λ (w : List Entry). take x.revision s.log ++ w) (sym q.no_downlink) ∙ take-append-drop x.revision s.log in
    synchronized_list c x.phase start (take x.revision s.log) (drop x.revision s.log) x.list x.message q.synchronized (sound.clients c x at) ∙ ap (apply_entries start) all ∙ sym sound.server

-- whole runs
module _ (laws : AlgebraLaws) where
  pub run_sound : (is : List Instr) (p q : Place) → IsSound p.state → AreInstrs is → run is p ≡ Some q → IsSound q.state
  run_sound [] p q sound all e = subst (λ (w : Place). IsSound w.state) (same_Some p q e) sound
  run_sound (i ∷ is) p q sound all e = go (λ r fine f. run_sound is r q fine all.1 f) (step p.state i) (step_sound laws p.state i sound all.0) e
    where
      go : ((r : Place) → IsSound r.state → run is r ≡ Some q → IsSound q.state) → (o : Outcome) → IsOutcomeSound o → (elim o [ Performed s list ↦ run is (record { state = s; shown = with_shown p.shown list }) | Refused r ↦ None | NoRow ↦ None ]) ≡ Some q → IsSound q.state
      go on (Performed s list) fine f = on (record { state = s; shown = with_shown p.shown list }) fine f
      go on (Refused r) fine f = absurd (cc)
      go on NoRow fine f = absurd fine

  pub converges : (clients present : ℕ) (text : List ℕ) (is : List Instr) (q : Place) → clients ≤ 64 → present ≤ clients → length text ≤ 40000 → AreInstrs is → run is (begin clients present text) ≡ Some q → IsQuiet q.state
      → (c : ℕ) (x : Client) → slice_get q.state.clients c ≡ Some x → is_joined x.phase ≡ true → x.list ≡ q.state.server
  converges clients present text is q few within short all e quiet = quiet_same q.state (run_sound is (begin clients present text) q (opening_sound clients present text few within short) all e) quiet
