use Rattle.std.proofs.Common.{◌≡◌, ◌<◌, length, arith, subst, sym}
use Rattle.std.specs.Prelude.{min}
use Rattle.ot_board.specs.declared.lent.Lent.{Lent}
use Rattle.ot_board.specs.Lents.{session_of}
use Rattle.ot_workers.specs.Playing.{heard, IsCutShort}
use Rattle.ot_workers.proofs.Heard.{heard_all, heard_more, heard_some}
use Rattle.ot_workers.proofs.playing.hear.Goals as goal

pub returns-in-Err-clause-err : goal.returns-in-Err-clause-err
returns-in-Err-clause-err c =
    let x = session_of c.args.lent in
    let long = c.incoming_len.ensures in
    let least = c.min-count.ensures in
    let below = c.loop-place-test.true in
    let few : c.loop-place.place < min (length x.now.incoming) 60 = grind arith in
    subst (λ (l : Lent). IsCutShort x (heard x) (session_of l)) (sym c.in-Err.ensures.back) (heard_some x (session_of c.loop-place.lent) c.loop-place.place few c.loop-place.invariant)

pub loop-place-preserved : goal.loop-place-preserved
loop-place-preserved c =
    heard_more (session_of c.args.lent) (session_of c.loop-place.lent) (session_of c.in-Ok.next) c.loop-place.place _ (omega arith) c.loop-place.invariant c.in-Ok.ensures.ok

pub returns-clause-ok : goal.returns-clause-ok
returns-clause-ok c =
    let x = session_of c.args.lent in
    let long = c.incoming_len.ensures in
    let least = c.min-count.ensures in
    let past = c.loop-place-test.false in
    let within = c.loop-place.auto.place-end in
    let all : c.loop-place.place ≡ min (length x.now.incoming) 60 = grind arith in
    heard_all x (session_of c.loop-place.lent) c.loop-place.place all c.loop-place.invariant
