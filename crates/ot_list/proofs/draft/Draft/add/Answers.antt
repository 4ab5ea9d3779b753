use Rattle.std.proofs.Common.{refl}
use Rattle.ot_list.proofs.Drafted.{with_leaf}
use Rattle.ot_list.proofs.draft.Draft.add.Goals as goal

pub returns : goal.returns
returns g c =
    with_leaf _ _ _ c.args.self.now _ c.args.leaf c.requires.draft c.requires.some c.requires.small c.requires.end refl refl c.in_ok-push-2.ensures.items
    (rw (c.in_ok-push.ensures.items, c.sum.ensures, c.as_slice.ensures.value) refl) refl refl refl
