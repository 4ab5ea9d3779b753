use Rattle.std.proofs.Common.{inl, inr, rules}
use Rattle.ot_judge.proofs.Deleters.{insert-keeps, others-within}
use Rattle.ot_judge.proofs.elements.note_deleter.Goals as goal

pub is_of-requires : goal.is_of-requires
is_of-requires c = c.requires.known c.in-Some.last (inl c.in-Some.is)

pub offset_bounds-events-last : goal.offset_bounds-events-last
offset_bounds-events-last c =
    let below = c.requires.known c.in-Some.last (inl c.in-Some.is) in
    search (rules, below)

pub bounds-events-last : goal.bounds-events-last
bounds-events-last c = c.requires.known c.in-Some.last (inl c.in-Some.is)

pub bounds-events-last-else-is_of : goal.bounds-events-last-else-is_of
bounds-events-last-else-is_of c = c.requires.known c.in-Some.last (inl c.in-Some.is)

pub find_deleter-requires : goal.find_deleter-requires
find_deleter-requires c = others-within c.args.x.now c.as_slice.result.now _ c.as_slice.ensures.value c.requires.known

pub returns-in_ok-insert-clause-kept : goal.returns-in_ok-insert-clause-kept
returns-in_ok-insert-clause-kept c = λ k noted. elim noted [
  | inl is ↦ inl is
  | inr at ↦ inr (insert-keeps c.args.x.now.others.items c.insert.new.self.items c.in-Err.at c.args.d k c.in_ok-insert.ensures.items at)
]
