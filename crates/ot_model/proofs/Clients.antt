-- One client in a sound state: what each row leaves of it.
use Rattle.std.proofs.Common.{◌≡◌, ℕ, suc, ◌≤◌, ◌≢◌, List, [], ◌∷◌, ◌++◌, length, drop, refl, sym, ap, ◌∙◌, arith, inl, inr, Option, Some, None, true}
use Rattle.std.proofs.lemmas.List.{take-append-le, drop-append-le, length_push, append-nil, take_all, drop_all}
use Rattle.ot_model.specs.Operation.{Operation, apply, news, first_after, second_after}
use Rattle.ot_model.specs.Table.{Phase, NotJoined, Synchronized, AwaitingConfirm, AwaitingWithBuffer, is_joined, Client, Entry, Message, phase_edited, message_edited, phase_delivered, against_pending, acknowledged}
use Rattle.ot_isa.specs.declared.elements.Tagged.{Tagged}
use Rattle.ot_server.specs.History.{transform_over}
use Rattle.ot_model.specs.Sound.{Fits, apply_entries, FitAll, NoneBy, Lands, IsUnderway, IsSent, IsPhaseSound, IsClientSound, news_sent, news_kept, news_pending}
use Rattle.ot_model.proofs.Algebra.{AlgebraLaws}

-- the entries one by one
pub apply_entries_push : (d : List Tagged) (log : List Entry) (h : Entry) → apply_entries d (log ++ h ∷ []) ≡ apply h.op (apply_entries d log)
apply_entries_push d [] h = refl
apply_entries_push d (x ∷ log) h = apply_entries_push (apply x.op d) log h

pub transform_over-append : (m : Operation Tagged) (xs ys : List Entry) → transform_over m (xs ++ ys) ≡ transform_over (transform_over m xs) ys
transform_over-append m [] ys = refl
transform_over-append m (x ∷ xs) ys = transform_over-append (first_after m x.op) xs ys

pub FitAll_push : (d : List Tagged) (log : List Entry) (h : Entry) → FitAll d log → Fits h.op (apply_entries d log) → FitAll d (log ++ h ∷ [])
FitAll_push d [] h all fits = (fits, tt)
FitAll_push d (x ∷ log) h all fits = (all.0, FitAll_push (apply x.op d) log h all.1 fits)

-- an entry in the middle fits what stands before it
pub FitAll_at : (d : List Tagged) (seen : List Entry) (h : Entry) (ahead : List Entry) → FitAll d (seen ++ h ∷ ahead) → Fits h.op (apply_entries d seen)
FitAll_at d [] h ahead all = all.0
FitAll_at d (x ∷ seen) h ahead all = FitAll_at (apply x.op d) seen h ahead all.1

pub NoneBy_push : (c : ℕ) (log : List Entry) (e : Entry) → NoneBy c log → e.maker ≢ c → NoneBy c (log ++ e ∷ [])
NoneBy_push c [] e none other = (other, tt)
NoneBy_push c (h ∷ log) e none other = (none.0, NoneBy_push c log e none.1 other)

pub Lands_push : (c : ℕ) (o : Operation Tagged) (log : List Entry) (e : Entry) → Lands c o log → e.maker ≢ c → Lands c o (log ++ e ∷ [])
Lands_push c o [] e lands other = elim lands [ ]
Lands_push c o (h ∷ log) e (inl here) other = inl (here.0, here.1, NoneBy_push c log e here.2 other)
Lands_push c o (h ∷ log) e (inr there) other = inr (there.0, Lands_push c (first_after o h.op) log e there.1 other)

pub Lands_made : (c : ℕ) (o : Operation Tagged) (log : List Entry) → NoneBy c log → Lands c o (log ++ record { maker = c; op = transform_over o log } ∷ [])
Lands_made c o [] none = inl (refl, refl, tt)
Lands_made c o (h ∷ log) none = inr (none.0, Lands_made c (first_after o h.op) log none.1)

-- another client's entry comes behind
pub IsSent_push : (c : ℕ) (o : Operation Tagged) (start : List Tagged) (seen ahead : List Entry) (message : Option Message) (e : Entry) → e.maker ≢ c → IsSent c o start seen ahead message → IsSent c o start seen (ahead ++ e ∷ []) message
IsSent_push c o start seen ahead None e other sent = Lands_push c o ahead e sent other
IsSent_push c o start seen ahead (Some m) e other sent =
    record { revision = sent.revision; fits = sent.fits; transformed = sent.transformed; none = NoneBy_push c ahead e sent.none other }

pub IsPhaseSound_push : (c : ℕ) (phase : Phase) (start : List Tagged) (seen ahead : List Entry) (list : List Tagged) (message : Option Message) (e : Entry) → e.maker ≢ c → IsPhaseSound c phase start seen ahead list message → IsPhaseSound c phase start seen (ahead ++ e ∷ []) list message
IsPhaseSound_push c NotJoined start seen ahead list message e other sound = tt
IsPhaseSound_push c Synchronized start seen ahead list message e other sound =
    record { list_is = sound.list_is; message_is = sound.message_is; none = NoneBy_push c ahead e sound.none other }
IsPhaseSound_push c (AwaitingConfirm o) start seen ahead list message e other sound =
    record { fits = sound.fits; list_is = sound.list_is; sent = IsSent_push c o start seen ahead message e other sound.sent }
IsPhaseSound_push c (AwaitingWithBuffer o b) start seen ahead list message e other sound =
    record { fits = sound.fits; buffer_fits = sound.buffer_fits; list_is = sound.list_is; sent = IsSent_push c o start seen ahead message e other sound.sent }

-- what is taken is the outstanding, transformed against what the client has not seen
pub taken_is : (c : ℕ) (o : Operation Tagged) (start : List Tagged) (seen ahead : List Entry) (m : Message) → IsUnderway c o start seen ahead m → transform_over m.op (drop m.revision (seen ++ ahead)) ≡ transform_over o ahead
taken_is c o start seen ahead m u =
    let in_seen : m.revision ≤ length seen = u.revision in
    rw (drop-append-le m.revision seen ahead in_seen, transform_over-append, u.transformed)

pub IsPhaseSound_taken : (c : ℕ) (phase : Phase) (start : List Tagged) (seen ahead : List Entry) (list : List Tagged) (m : Message) → IsPhaseSound c phase start seen ahead list (Some m)
    → IsPhaseSound c phase start seen (ahead ++ record { maker = c; op = transform_over m.op (drop m.revision (seen ++ ahead)) } ∷ []) list None
IsPhaseSound_taken c NotJoined start seen ahead list m sound = tt
IsPhaseSound_taken c Synchronized start seen ahead list m sound = absurd (let e = sound.message_is in cc)
IsPhaseSound_taken c (AwaitingConfirm o) start seen ahead list m sound =
    record { fits = sound.fits; list_is = sound.list_is; sent = rw (taken_is c o start seen ahead m sound.sent) (Lands_made c o ahead sound.sent.none) }
IsPhaseSound_taken c (AwaitingWithBuffer o b) start seen ahead list m sound =
    record { fits = sound.fits; buffer_fits = sound.buffer_fits; list_is = sound.list_is; sent = rw (taken_is c o start seen ahead m sound.sent) (Lands_made c o ahead sound.sent.none) }

module _ (laws : AlgebraLaws) where
  open laws use {first_fits, second_fits, same, compose_fits, apply-compose}

  -- an operation transformed against entries that fit goes on to fit
  pub transform_over_fits : (o : Operation Tagged) (d : List Tagged) (log : List Entry) → FitAll d log → Fits o d → Fits (transform_over o log) (apply_entries d log)
  transform_over_fits o d [] all fits = fits
  transform_over_fits o d (h ∷ log) all fits = transform_over_fits (first_after o h.op) (apply h.op d) log all.1 (first_fits o h.op d fits all.0)

  -- Edit
  pub IsPhaseSound_edited : (c : ℕ) (phase : Phase) (start : List Tagged) (seen ahead : List Entry) (x : Client) (op : Operation Tagged) → length seen ≡ x.revision → Fits op x.list → IsPhaseSound c phase start seen ahead x.list x.message
      → IsPhaseSound c (phase_edited phase op) start seen ahead (apply op x.list) (message_edited phase x op)
  IsPhaseSound_edited c NotJoined start seen ahead x op at fits sound = tt
  IsPhaseSound_edited c Synchronized start seen ahead x op at fits sound =
      let le : length seen ≤ x.revision = omega arith in
      let f : Fits op (apply_entries start seen) = rw sound.list_is at fits in
      record {
        fits = f;
        list_is = ap (apply op) sound.list_is;
        sent = record {
          revision = omega arith;
          fits = rw (take_all x.revision seen le) f;
          transformed = rw (drop_all x.revision seen le);
          none = sound.none;
        };
      }
  IsPhaseSound_edited c (AwaitingConfirm o) start seen ahead x op at fits sound =
      record {
        fits = sound.fits;
        buffer_fits = rw sound.list_is at fits;
        list_is = ap (apply op) sound.list_is;
        sent = sound.sent;
      }
  IsPhaseSound_edited c (AwaitingWithBuffer o b) start seen ahead x op at fits sound =
      let d = apply o (apply_entries start seen) in
      let f : Fits op (apply b d) = rw sound.list_is at fits in
      record {
        fits = sound.fits;
        buffer_fits = compose_fits b op d sound.buffer_fits f;
        list_is = ap (apply op) sound.list_is ∙ sym (apply-compose b op d sound.buffer_fits f);
        sent = sound.sent;
      }

  -- Deliver
  IsSent_delivered : (c : ℕ) (o : Operation Tagged) (start : List Tagged) (seen ahead : List Entry) (message : Option Message) (h : Entry) → h.maker ≢ c → IsSent c o start seen (h ∷ ahead) message
      → IsSent c (first_after o h.op) start (seen ++ h ∷ []) ahead message
  IsSent_delivered c o start seen ahead None h other (inl here) = absurd (other here.0)
  IsSent_delivered c o start seen ahead None h other (inr there) = there.1
  IsSent_delivered c o start seen ahead (Some m) h other sent =
      let le : m.revision ≤ length seen = sent.revision in
      record {
        revision = rw length_push (omega arith);
        fits = rw (take-append-le m.revision seen (h ∷ []) le) sent.fits;
        transformed = rw (drop-append-le m.revision seen (h ∷ []) le, transform_over-append m.op (drop m.revision seen) (h ∷ []), sent.transformed);
        none = sent.none.1;
      }

  pub IsPhaseSound_delivered : (c : ℕ) (phase : Phase) (start : List Tagged) (seen ahead : List Entry) (list : List Tagged) (message : Option Message) (h : Entry) → h.maker ≢ c → Fits h.op (apply_entries start seen) → IsPhaseSound c phase start seen (h ∷ ahead) list message
      → IsPhaseSound c (phase_delivered phase h.op) start (seen ++ h ∷ []) ahead (apply (against_pending phase h.op) list) message
  IsPhaseSound_delivered c NotJoined start seen ahead list message h other fits sound = tt
  IsPhaseSound_delivered c Synchronized start seen ahead list message h other fits sound =
      record {
        list_is = ap (apply h.op) sound.list_is ∙ sym (apply_entries_push start seen h);
        message_is = sound.message_is;
        none = sound.none.1;
      }
  IsPhaseSound_delivered c (AwaitingConfirm o) start seen ahead list message h other fits sound =
      let d = apply_entries start seen in
      let e = apply_entries_push start seen h in
      record {
        fits = rw e (first_fits o h.op d sound.fits fits);
        list_is = rw e (ap (apply (second_after o h.op)) sound.list_is ∙ same o h.op d sound.fits fits);
        sent = IsSent_delivered c o start seen ahead message h other sound.sent;
      }
  IsPhaseSound_delivered c (AwaitingWithBuffer o b) start seen ahead list message h other fits sound =
      let d = apply_entries start seen in
      let e = apply_entries_push start seen h in
      let p = second_after o h.op in
      let p_fits = second_fits o h.op d sound.fits fits in
      let q_fits = first_fits b p (apply o d) sound.buffer_fits p_fits in
      record {
        fits = rw e (first_fits o h.op d sound.fits fits);
        buffer_fits = rw e (rw (same o h.op d sound.fits fits) at q_fits);
        list_is = rw e (ap (apply (second_after b p)) sound.list_is ∙ same b p (apply o d) sound.buffer_fits p_fits ∙ ap (apply (first_after b p)) (same o h.op d sound.fits fits));
        sent = IsSent_delivered c o start seen ahead message h other sound.sent;
      }

  -- Acknowledge
  pub own_head : (c : ℕ) (o : Operation Tagged) (start : List Tagged) (seen ahead : List Entry) (message : Option Message) (h : Entry) → h.maker ≡ c → IsSent c o start seen (h ∷ ahead) message → (message ≡ None) × (h.op ≡ o) × NoneBy c ahead
  own_head c o start seen ahead None h own (inl here) = (refl, here.1, here.2)
  own_head c o start seen ahead None h own (inr there) = absurd (there.0 own)
  own_head c o start seen ahead (Some m) h own sent = absurd (sent.none.0 own)

  pub IsClientSound_acknowledged : (c : ℕ) (phase : Phase) (start : List Tagged) (seen ahead : List Entry) (x : Client) (h : Entry) → h.maker ≡ c → is_joined phase ≡ true → length seen ≡ x.revision → IsPhaseSound c phase start seen (h ∷ ahead) x.list x.message
      → (y : Client) × (acknowledged x phase ≡ Some y) × IsClientSound c start (seen ++ h ∷ []) ahead y × (is_joined y.phase ≡ true) × (y.revision ≡ suc x.revision) × (y.count ≡ x.count) × (news_pending y ≡ news_sent x.message ++ news_kept phase)
  IsClientSound_acknowledged c NotJoined start seen ahead x h own joined at sound = absurd (cc)
  IsClientSound_acknowledged c Synchronized start seen ahead x h own joined at sound = absurd (sound.none.0 own)
  IsClientSound_acknowledged c (AwaitingConfirm o) start seen ahead x h own joined at sound =
      let d = apply_entries start seen in
      let facts = own_head c o start seen ahead x.message h own sound.sent in (
        record { revision = suc x.revision; phase = Synchronized; list = x.list; count = x.count; message = x.message },
        refl,
        record {
          list_is = sound.list_is ∙ ap (λ (a : Operation Tagged). apply a d) (sym facts.1) ∙ sym (apply_entries_push start seen h);
          message_is = facts.0;
          none = facts.2;
        },
        refl,
        refl,
        refl,
        refl,
      )
  IsClientSound_acknowledged c (AwaitingWithBuffer o b) start seen ahead x h own joined at sound =
      let d = apply_entries start seen in
      let facts = own_head c o start seen ahead x.message h own sound.sent in
      let e : apply o d ≡ apply_entries start (seen ++ h ∷ []) = ap (λ (a : Operation Tagged). apply a d) (sym facts.1) ∙ sym (apply_entries_push start seen h) in
      let le : length (seen ++ h ∷ []) ≤ suc x.revision = rw length_push (omega arith) in
      let f : Fits b (apply_entries start (seen ++ h ∷ [])) = rw e at sound.buffer_fits in (
        record { revision = suc x.revision; phase = AwaitingConfirm b; list = x.list; count = x.count; message = Some (record { revision = suc x.revision; op = b }) },
        refl,
        record {
          fits = f;
          list_is = rw (← e) sound.list_is;
          sent = record {
            revision = rw length_push (omega arith);
            fits = rw (take_all (suc x.revision) (seen ++ h ∷ []) le) f;
            transformed = rw (drop_all (suc x.revision) (seen ++ h ∷ []) le);
            none = facts.2;
          };
        },
        refl,
        refl,
        refl,
        append-nil (news b) ∙ ap (λ (m : Option Message). news_sent m ++ news b) (sym facts.0),
      )
