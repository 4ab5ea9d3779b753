use Rattle.std.proofs.Common.{◌≡◌, ◌<◌, ◌++◌, ◌∷◌, length, length-append, rules, ap, sym, append-nil, arith}
use Rattle.streams.proofs.Ends.{begun, kept, longer, full_line, last_line, no_line, spends_piece, spends_line, lost, handed_on}
use Rattle.streams.proofs.ahead.Held.next_line.Goals as goal

pub loop-self-init : goal.loop-self-init
loop-self-init g c = rw c.clear.ensures.items (record { piece = begun _; count = omega arith })

pub returns-in_err-has_more-clause-err : goal.returns-in_err-has_more-clause-err
returns-in_err-has_more-clause-err g c = handed_on c.from_residual.result _ (lost _ _ _ _ c.loop-self.invariant.piece c.has_more.ensures.kept)

pub returns-in_err-take_piece-clause-err : goal.returns-in_err-take_piece-clause-err
returns-in_err-take_piece-clause-err g c =
    handed_on c.from_residual-in_err-take_piece.result _ (rw c.in_err-take_piece.ensures.err (lost _ _ _ _ c.loop-self.invariant.piece c.has_more.ensures.kept))

pub returns-then-branch-2-clause-ok : goal.returns-then-branch-2-clause-ok
returns-then-branch-2-clause-ok g c =
    let p = rw c.if-branch-2.true at c.in_ok-take_piece.ensures.piece in
    rw p.2 (full_line _ _ _ _ _ p.0 (kept _ _ _ _ c.loop-self.invariant.piece c.has_more.ensures.kept) p.1 p.3)

pub returns-then-branch-2-clause-spent : goal.returns-then-branch-2-clause-spent
returns-then-branch-2-clause-spent g c =
    let p = rw c.if-branch-2.true at c.in_ok-take_piece.ensures.piece in
    spends_line _ _ _ _ _ p.0 _ _ (kept _ _ _ _ c.loop-self.invariant.piece c.has_more.ensures.kept) p.3
    (omega (arith, c.loop-self.invariant.count, c.has_more.ensures.may_take, c.take_piece.ensures.left, ap length p.3, length-append p.0 (10 ∷ c.take_piece.new.self.held), length-append c.loop-self.line.items p.0))

pub returns-then-branch-2-clause-less : goal.returns-then-branch-2-clause-less
returns-then-branch-2-clause-less g c more =
    let p = rw c.if-branch-2.true at c.in_ok-take_piece.ensures.piece in
    omega (arith, c.loop-self.invariant.count, c.has_more.ensures.may_take, c.take_piece.ensures.left, ap length p.3, length-append p.0 (10 ∷ c.take_piece.new.self.held))

pub loop-self-preserved : goal.loop-self-preserved
loop-self-preserved g c =
    let p = rw c.if-branch-2.false at c.in_ok-take_piece.ensures.piece in
    let held = c.has_more.new.self.held in
    let all : held ≡ held ++ c.take_piece.new.self.held = rw p.2 (sym (append-nil held)) in
    rw p.1 (record {
      piece = longer _ _ _ _ _ _ (kept _ _ _ _ c.loop-self.invariant.piece c.has_more.ensures.kept) p.0 all;
      count = omega (arith, c.loop-self.invariant.count, c.has_more.ensures.may_take, c.take_piece.ensures.left, ap length p.2, length-append c.loop-self.line.items c.has_more.new.self.held);
    })

pub returns-then-is_empty-clause-ok : goal.returns-then-is_empty-clause-ok
returns-then-is_empty-clause-ok g c =
    let empty : length c.loop-self.line.items ≡ 0 = search rules in
    no_line _ _ _ empty (kept _ _ _ _ c.loop-self.invariant.piece c.has_more.ensures.kept) (c.in_ok-has_more.ensures.end (search rules)).0

pub returns-clause-ok : goal.returns-clause-ok
returns-clause-ok g c =
    let some : 0 < length c.loop-self.line.items = search rules in
    last_line _ _ _ some (kept _ _ _ _ c.loop-self.invariant.piece c.has_more.ensures.kept) (c.in_ok-has_more.ensures.end (search rules)).0

pub returns-clause-less : goal.returns-clause-less
returns-clause-less g c more =
    let some : 0 < length c.loop-self.line.items = search rules in
    omega (arith, c.loop-self.invariant.count, c.has_more.ensures.may_take, some)

pub returns-then-is_empty-clause-spent : goal.returns-then-is_empty-clause-spent
returns-then-is_empty-clause-spent g c = spends_piece _ _ _ _ _ (kept _ _ _ _ c.loop-self.invariant.piece c.has_more.ensures.kept) (omega (arith, c.loop-self.invariant.count, c.has_more.ensures.may_take))

pub returns-clause-spent : goal.returns-clause-spent
returns-clause-spent g c = spends_piece _ _ _ _ _ (kept _ _ _ _ c.loop-self.invariant.piece c.has_more.ensures.kept) (omega (arith, c.loop-self.invariant.count, c.has_more.ensures.may_take))
