use Rattle.std.proofs.Common.{◌≡◌, reverse, vec_capacity}
use Rattle.ot_list.proofs.Merging.{IsMerging}
use Rattle.ot_list.proofs.moves.merge.Given as goal

abbrev pub invariant-loop-span : goal.invariant-loop-span
invariant-loop-span g l = record {
  merging : IsMerging l.spans l.fn.list.items l.fn.others.items l.span-index (reverse l.list.items) (reverse l.others.items) l.room.list.items l.room.gone.items;
  made_capacity : vec_capacity l.room.list ≡ vec_capacity l.fn.room.list;
  gone_capacity : vec_capacity l.room.gone ≡ vec_capacity l.fn.room.gone;
}
