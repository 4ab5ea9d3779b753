use Rattle.std.proofs.Common.{ℕ, map, refl, arith, Vec, Global}
use Rattle.ot_asm.proofs.Listing.{name_put, padded_more}
use Rattle.ot_asm.proofs.comments.set_name.Goals as goal

pub loop-alloc-preserved : goal.loop-alloc-preserved
loop-alloc-preserved c =
    padded_more (λ (v : Vec ℕ Global). v.items) (map (λ (v : Vec ℕ Global). v.items) c.args.names.now.items) c.loop-alloc.names.items c.push.new.self.items c.new.result c.args.client c.loop-alloc.invariant
    (omega arith) c.in_ok-push.ensures.items c.new.ensures.items

pub returns : goal.returns
returns c =
    name_put (λ (v : Vec ℕ Global). v.items) (map (λ (v : Vec ℕ Global). v.items) c.args.names.now.items) c.loop-alloc.names.items _ c.args.name c.args.client c.loop-alloc.invariant (omega arith) refl
