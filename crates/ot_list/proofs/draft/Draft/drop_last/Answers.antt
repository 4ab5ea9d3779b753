use Rattle.std.proofs.Common.{◌≡◌, ◌-◌, ℕ, length, take, vec_len, ap, ◌∙◌, refl, arith}
use Rattle.std.proofs.lemmas.List.{nil_from_length}
use Rattle.ot_list.proofs.Drafted.{numbers, kept_some, span_fits, without_put, without_kept, without_span, without_first}
use Rattle.ot_list.proofs.draft.Draft.drop_last.Goals as goal

pub returns-then-len-self : goal.returns-then-len-self
returns-then-len-self g c =
    let d = c.args.self.now in
    let size : vec_len d.leaves ≡ length d.leaves.items = omega arith in
    let size' : vec_len d.sums ≡ length d.sums.items = omega arith in
    without_put g.E.Item.CAP g.E.Item.total c.args.old.now d _ c.requires.draft (omega arith) refl refl
    (c.pop.ensures.rest ∙ ap (λ (n : ℕ). take (n - 1) d.leaves.items) size) (c.pop-then-len-self.ensures.rest ∙ ap (λ (n : ℕ). take (n - 1) d.sums.items) size') refl refl refl

pub overflow_sub-self : goal.overflow_sub-self
overflow_sub-self g c = kept_some g.E.Item.CAP g.E.Item.total c.args.old.now c.args.self.now c.requires.draft (omega arith) c.requires.some

pub overflow_sub-self-2 : goal.overflow_sub-self-2
overflow_sub-self-2 g c =
    let n = numbers g.E.Item.CAP g.E.Item.total c.args.old.now c.args.self.now c.requires.draft in
    let p = n.place_is in
    let k = kept_some g.E.Item.CAP g.E.Item.total c.args.old.now c.args.self.now c.requires.draft (omega arith) c.requires.some in
    omega arith

pub returns-then-self-gt0 : goal.returns-then-self-gt0
returns-then-self-gt0 g c =
    without_kept g.E.Item.CAP g.E.Item.total c.args.old.now c.args.self.now _ c.requires.draft (omega arith) (omega arith) refl refl refl refl refl refl refl

pub overflow_sub-self-in-Some : goal.overflow_sub-self-in-Some
overflow_sub-self-in-Some g c =
    let k = kept_some g.E.Item.CAP g.E.Item.total c.args.old.now c.args.self.now c.requires.draft (omega arith) c.requires.some in
    let f = span_fits g.E.Item.CAP g.E.Item.total c.args.old.now c.args.self.now c.pop-2.new.self.items c.in-Some.span c.requires.draft k c.in-Some.ensures.items in
    f.0

pub overflow_sub-self-in-Some-2 : goal.overflow_sub-self-in-Some-2
overflow_sub-self-in-Some-2 g c =
    let k = kept_some g.E.Item.CAP g.E.Item.total c.args.old.now c.args.self.now c.requires.draft (omega arith) c.requires.some in
    let f = span_fits g.E.Item.CAP g.E.Item.total c.args.old.now c.args.self.now c.pop-2.new.self.items c.in-Some.span c.requires.draft k c.in-Some.ensures.items in
    f.1

pub returns-in-Some : goal.returns-in-Some
returns-in-Some g c =
    let k = kept_some g.E.Item.CAP g.E.Item.total c.args.old.now c.args.self.now c.requires.draft (omega arith) c.requires.some in
    without_span g.E.Item.CAP g.E.Item.total c.args.old.now c.args.self.now _ c.in-Some.span c.requires.draft (omega arith) (omega arith) c.in-Some.ensures.items refl refl refl refl refl refl

pub returns-in-None : goal.returns-in-None
returns-in-None g c =
    let k = kept_some g.E.Item.CAP g.E.Item.total c.args.old.now c.args.self.now c.requires.draft (omega arith) c.requires.some in
    without_first g.E.Item.CAP g.E.Item.total c.args.old.now c.args.self.now _ c.requires.draft (omega arith) (omega arith)
    (nil_from_length c.args.self.now.spans.items (omega (arith, c.in-None.ensures.cases.0))) refl (nil_from_length c.pop-2.new.self.items (omega (arith, c.in-None.ensures.cases.1))) refl refl refl (omega arith) refl
