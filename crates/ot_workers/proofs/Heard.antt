-- What a turn makes of a session, step by step.
use Rattle.std.proofs.Common.{◌≡◌, ℕ, zero, suc, ◌+◌, ◌<◌, List, [], ◌∷◌, ◌++◌, length, map, take, drop, refl, sym, ap, ◌∙◌, subst, Option, Some, None, true, false, Bool, arith, append_assoc, inl, inr}
use Rattle.std.specs.Prelude.{◌==◌, if◌then◌else◌, min}
use Rattle.std.proofs.lemmas.Bool.{cases_lt, eqb-true}
use Rattle.std.proofs.lemmas.List.{append-nil, length-append, length-map, length-take, map-append, take-append-le, take-map, take-take, take_all}
use Rattle.ot_isa.specs.declared.elements.Tagged.{Tagged}
use Rattle.ot_isa.specs.declared.instruction.Instr.{Instr}
use Rattle.ot_isa.specs.declared.instruction.Instr.TheVariants.{Edit, Deliver, Acknowledge}
use Rattle.ot_model.specs.declared.shown.Shown.{Shown}
use Rattle.ot_model.specs.declared.shown.Refusal.{Refusal}
use Rattle.ot_model.specs.declared.shown.Refusal.TheVariants as table
use Rattle.ot_model.specs.Operation.{Operation}
use Rattle.ot_model.specs.Table.{Client, Phase, Entry, Head, Ack, Op, head_for, Synchronized, acknowledged, delivered}
use Rattle.ot_model.specs.Sound.{IsPhaseSound, NoneBy}
use Rattle.ot_model.specs.Part.{Part, PartOutcome, PartPerformed, PartRefused, PartNoRow, PartPlace, part_row, part_deliver, part_acknowledge, part_with, with_part}
use Rattle.ot_model.specs.Session.{Session, IsAllowed, installed, or_else}
use Rattle.ot_model.proofs.Sessions.{present_sound, goes_on}
use Rattle.ot_plan.specs.Typing.{Action, edit_of}
use Rattle.ot_board.specs.Sessions.{IsNext, IsNextHead}
use Rattle.ot_workers.specs.Playing.{step_for, heard, part_after, typed_on, HasMade, HasHeard, IsCutShort}

-- a synchronized client has no acknowledgement before it
maker_own : (h : Entry) (mine : Bool) → (if mine then Ack else Op h.op) ≡ Ack → mine ≡ true
maker_own h true e = refl
maker_own h false e = absurd (cc)

none_own : (c : ℕ) (log : List Entry) (ys : List Head) → NoneBy c log → map (head_for c) log ≡ Ack ∷ ys → ⊥
none_own c [] ys none e = absurd (cc)
none_own c (h ∷ log) ys none e =
    let first : head_for c h ≡ Ack = cc in
    none.0 (eqb-true h.maker c (maker_own h (h.maker == c) first))

pub none_waits : (x : Session) → IsAllowed x → x.now.client.phase ≡ Synchronized → IsNextHead x Ack → ⊥
none_waits x allowed phase next =
    let (s, m, rest, sound, over) = present_sound x allowed in
    let (start, text, from) = sound in
    let seen = take x.now.client.revision s.log in
    let ahead = drop x.now.client.revision s.log in
    let message = or_else x.now.client.message m in
    let now = from.clients x.now.number (installed x.now.client m) over.client in
    let here = subst (λ (p : Phase). IsPhaseSound x.now.number p start seen ahead x.now.client.list message) phase now in
    let line : map (head_for x.now.number) ahead ≡ Ack ∷ (next.rest ++ rest) = over.downlink ∙ ap (λ (l : List Head). l ++ rest) next.incoming_is in
    none_own x.now.number ahead (next.rest ++ rest) here.none line

-- a row of the part's own client
same_part : (p q : Part) (a b : Option Shown) → PartPerformed p a ≡ PartPerformed q b → p ≡ q
same_part p q a b e = cc

own_performed : (o : PartOutcome) (mine : Bool) (q : Part) (list : Option Shown) → (if mine then o else PartNoRow) ≡ PartPerformed q list → o ≡ PartPerformed q list
own_performed o true q list e = e
own_performed o false q list e = absurd (cc)

own_refused : (o : PartOutcome) (mine : Bool) (r : Refusal) → (if mine then o else PartNoRow) ≡ PartRefused r → o ≡ PartRefused r
own_refused o true r e = e
own_refused o false r e = absurd (cc)

-- what a delivery and an acknowledgement took
taken_op : (p q : Part) (list : Option Shown) (incoming : List Head) → part_deliver p incoming ≡ PartPerformed q list → (h : Operation Tagged) × (incoming ≡ Op h ∷ q.incoming)
taken_op p q list [] e = absurd (cc)
taken_op p q list (Ack ∷ incoming) e = absurd (cc)
taken_op p q list (Op h ∷ incoming) e = (h, ap (λ (z : Part). Op h ∷ z.incoming) (same_part (with_part p (delivered p.client h) incoming) q None list e))

taken_with : (p q : Part) (list : Option Shown) (o : Option Client) (incoming : List Head) → part_with p o incoming ≡ PartPerformed q list → incoming ≡ q.incoming
taken_with p q list None incoming e = absurd (cc)
taken_with p q list (Some x) incoming e = ap (λ (z : Part). z.incoming) (same_part (with_part p x incoming) q None list e)

taken_ack : (p q : Part) (list : Option Shown) (incoming : List Head) → part_acknowledge p incoming ≡ PartPerformed q list → incoming ≡ Ack ∷ q.incoming
taken_ack p q list [] e = absurd (cc)
taken_ack p q list (Op h ∷ incoming) e = absurd (cc)
taken_ack p q list (Ack ∷ incoming) e = ap (λ (l : List Head). Ack ∷ l) (taken_with p q list (acknowledged p.client p.client.phase) incoming e)

pub heard_op : (x y : Session) → IsNext x (Deliver x.start.number) None y → HasHeard x y
heard_op x y next =
    let o = part_deliver x.now x.now.incoming in
    let found = taken_op x.now y.now None x.now.incoming (own_performed o (x.start.number == x.now.number) y.now None next.row) in
    record { head = Op found.0; incoming_is = found.1; next = next }

pub heard_ack : (x y : Session) → IsNext x (Acknowledge x.start.number) None y → HasHeard x y
heard_ack x y next =
    let o = part_acknowledge x.now x.now.incoming in
    let found = taken_ack x.now y.now None x.now.incoming (own_performed o (x.start.number == x.now.number) y.now None next.row) in
    record { head = Ack; incoming_is = found; next = next }

-- what refused rows say of the next message
wrong_ack : (p : Part) (incoming : List Head) → part_deliver p incoming ≡ PartRefused table.WrongHead → (rest : List Head) × (incoming ≡ Ack ∷ rest)
wrong_ack p [] e = absurd (cc)
wrong_ack p (Ack ∷ incoming) e = (incoming, refl)
wrong_ack p (Op h ∷ incoming) e = absurd (cc)

pub ack_next : (x : Session) → length x.steps < 64 → part_row x.now (Deliver x.start.number) ≡ PartRefused table.WrongHead → IsNextHead x Ack
ack_next x room row =
    let found = wrong_ack x.now x.now.incoming (own_refused (part_deliver x.now x.now.incoming) (x.start.number == x.now.number) table.WrongHead row) in
    record { room = room; rest = found.0; incoming_is = found.1 }

not_empty : (p : Part) (incoming : List Head) → 0 < length incoming → part_deliver p incoming ≡ PartRefused table.LinkEmpty → ⊥
not_empty p [] some e = absurd (omega (arith, some))
not_empty p (Ack ∷ incoming) some e = absurd (cc)
not_empty p (Op h ∷ incoming) some e = absurd (cc)

-- steps that were made, one after another
pub made_none : (x : Session) → HasMade x [] x
made_none x = record { start = refl; steps_are = sym (append-nil x.steps); leads = ([], refl) }

pub made_more : (x y z : Session) (steps : List Instr) (i : Instr) (shown : Option Shown) → HasMade x steps y → IsNext y i shown z → HasMade x (steps ++ i ∷ []) z
made_more x y z steps i shown made next =
    record {
      start = next.start ∙ made.start;
      steps_are = next.steps ∙ ap (λ (is : List Instr). is ++ i ∷ []) made.steps_are ∙ append_assoc x.steps steps (i ∷ []);
      leads = goes_on x.now y.now z.now steps i shown made.leads next.row;
    }

-- the next of the messages
drop_head : (n : ℕ) (xs ys : List Head) (h : Head) → drop n xs ≡ h ∷ ys → (take (suc n) xs ≡ take n xs ++ h ∷ []) × (drop (suc n) xs ≡ ys)
drop_head zero [] ys h e = absurd (cc)
drop_head zero (x ∷ xs) ys h e = (ap (λ (z : Head). z ∷ []) (first_same x h xs ys e), rest_same x h xs ys e)
  where
    first_same : (x h : Head) (xs ys : List Head) → x ∷ xs ≡ h ∷ ys → x ≡ h
    first_same x h xs ys e = cc

    rest_same : (x h : Head) (xs ys : List Head) → x ∷ xs ≡ h ∷ ys → xs ≡ ys
    rest_same x h xs ys e = cc
drop_head (suc n) [] ys h e = absurd (cc)
drop_head (suc n) (x ∷ xs) ys h e =
    let f = drop_head n xs ys h e in
    (ap (λ (l : List Head). x ∷ l) f.0, f.1)

-- the first so many messages are received
pub record HasHeardFirst (x : Session) (count : ℕ) (y : Session) : Type 0 where
  pub made : HasMade x (map (step_for x.start.number) (take count x.now.incoming)) y
  pub left : y.now.incoming ≡ drop count x.now.incoming

pub heard_more : (x y z : Session) (count next : ℕ) → next ≡ suc count → HasHeardFirst x count y → HasHeard y z → HasHeardFirst x next z
heard_more x y z count next is before heard =
    let f = step_for x.start.number in
    let line = x.now.incoming in
    let at = drop_head count line z.now.incoming heard.head (sym before.left ∙ heard.incoming_is) in
    let same : step_for y.start.number heard.head ≡ f heard.head = ap (λ (n : ℕ). step_for n heard.head) (ap (λ (p : Part). p.number) before.made.start) in
    let steps : map f (take count line) ++ step_for y.start.number heard.head ∷ [] ≡ map f (take next line) =
    ap (λ (i : Instr). map f (take count line) ++ i ∷ []) same ∙ sym (map-append f (take count line) (heard.head ∷ [])) ∙ ap (map f) (sym at.0) ∙ ap (λ k. map f (take k line)) (sym is)
    in
    record {
      made = subst (λ (is : List Instr). HasMade x is z) steps (made_more x y z (map f (take count line)) (step_for y.start.number heard.head) None before.made heard.next);
      left = sym at.1 ∙ ap (λ k. drop k line) (sym is);
    }

first_min : (n : ℕ) (xs : List Head) → take (min (length xs) n) xs ≡ take n xs
first_min n xs = elim (cases_lt (length xs) n) [
  | inl less ↦
      let e : min (length xs) n ≡ length xs = omega arith in
      ap (λ k. take k xs) e ∙ take_all (length xs) xs (omega arith) ∙ sym (take_all n xs (omega arith))
  | inr more ↦
      let e : min (length xs) n ≡ n = omega arith in
      ap (λ k. take k xs) e
]

pub heard_all : (x y : Session) (count : ℕ) → count ≡ min (length x.now.incoming) 60 → HasHeardFirst x count y → HasMade x (heard x) y
heard_all x y count is before =
    subst (λ (is : List Instr). HasMade x is y) (ap (λ k. map (step_for x.start.number) (take k x.now.incoming)) is ∙ ap (map (step_for x.start.number)) (first_min 60 x.now.incoming)) before.made

pub heard_some : (x y : Session) (count : ℕ) → count < min (length x.now.incoming) 60 → HasHeardFirst x count y → IsCutShort x (heard x) y
heard_some x y count few before =
    let f = step_for x.start.number in
    let line = x.now.incoming in
    let long = length-map (take 60 line) f in
    let short = length-take 60 line in
    let same : map f (take count line) ≡ take count (heard x) = ap (map f) (sym (take-take count 60 line (omega arith))) ∙ sym (take-map f count (take 60 line)) in
    record { count = count; short = omega arith; made = subst (λ (is : List Instr). HasMade x is y) same before.made }

-- the part after the steps that were made
pub after_made : (x y : Session) (steps : List Instr) → HasMade x steps y → part_after steps x.now ≡ y.now
after_made x y steps made = ap (λ (o : Option PartPlace). elim o [ Some q ↦ q.part | None ↦ x.now ]) made.leads.1

-- all but the last step were made
pub cut_last : (x y : Session) (steps : List Instr) (i : Instr) → HasMade x steps y → IsCutShort x (steps ++ i ∷ []) y
cut_last x y steps i made =
    let long = length-append steps (i ∷ []) in
    record {
      count = length steps;
      short = omega arith;
      made = subst (λ (is : List Instr). HasMade x is y) (sym (take-append-le (length steps) steps (i ∷ []) (omega arith) ∙ take_all (length steps) steps (omega arith))) made;
    }

-- a whole turn that receives and types
typed_same : (x y : Session) (a : Action) → HasMade x (heard x) y → Edit y.start.number (edit_of a (length y.now.client.list)) ∷ [] ≡ typed_on x.start.number (part_after (heard x) x.now) (Some a)
typed_same x y a made =
    ap (λ (p : Part). Edit p.number (edit_of a (length y.now.client.list)) ∷ []) made.start
    ∙ ap (λ (p : Part). Edit x.start.number (edit_of a (length p.client.list)) ∷ []) (sym (after_made x y (heard x) made))

pub turn_made : (x y z : Session) (a : Action) → HasMade x (heard x) y → IsNext y (Edit y.start.number (edit_of a (length y.now.client.list))) None z
    → HasMade x (heard x ++ typed_on x.start.number (part_after (heard x) x.now) (Some a)) z
turn_made x y z a made next =
    subst (λ (is : List Instr). HasMade x (heard x ++ is) z) (typed_same x y a made)
    (made_more x y z (heard x) (Edit y.start.number (edit_of a (length y.now.client.list))) None made next)

pub turn_short : (x y : Session) (a : Action) → HasMade x (heard x) y → IsCutShort x (heard x ++ typed_on x.start.number (part_after (heard x) x.now) (Some a)) y
turn_short x y a made = cut_last x y (heard x) (Edit x.start.number (edit_of a (length (part_after (heard x) x.now).client.list))) made

pub heard_few : (x y : Session) → length x.steps ≡ 0 → HasMade x (heard x) y → length y.steps < 64
heard_few x y none made =
    let all = ap length made.steps_are ∙ length-append x.steps (heard x) in
    let long = length-map (take 60 x.now.incoming) (step_for x.start.number) in
    let short = length-take 60 x.now.incoming in
    omega arith
