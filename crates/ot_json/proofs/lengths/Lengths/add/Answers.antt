use Rattle.std.proofs.Common.{rules, ap, sym, ◌≡◌, length, arith}
use Rattle.std.specs.Str.{chars}
use Rattle.std.proofs.lemmas.Str.{chars_from_encodes}
use Rattle.ot_operation.specs.Run.{Keep, Add}
use Rattle.ot_json.proofs.Added.{refused, allowed, has_lengths}
use Rattle.ot_json.proofs.lengths.Lengths.add.Goals as goal

pub returns-then-count-max-clause-long : goal.returns-then-count-max-clause-long
returns-then-count-max-clause-long c op h =
    let base : c.args.self.now.0 ≡ c.self.inside.base = ap (λ p. p.0) (sym c.self.view_is) in
    let target : c.args.self.now.1 ≡ c.self.inside.target = ap (λ p. p.1) (sym c.self.view_is) in
    rw c.in-Retain.is (refused op c.args.self.now (Keep c.in-Retain.count) h (omega arith))

pub returns-then-count-self-clause-long : goal.returns-then-count-self-clause-long
returns-then-count-self-clause-long c op h =
    let base : c.args.self.now.0 ≡ c.self.inside.base = ap (λ p. p.0) (sym c.self.view_is) in
    let target : c.args.self.now.1 ≡ c.self.inside.target = ap (λ p. p.1) (sym c.self.view_is) in
    let count : c.count-count.result ≡ length (chars c.in-Insert.text.now) = search (rules, chars_from_encodes) in
    rw c.in-Insert.is (refused op c.args.self.now (Add (chars c.in-Insert.text.now)) h (omega arith))

pub returns-else-count-max-clause-long : goal.returns-else-count-max-clause-long
returns-else-count-max-clause-long c op h =
    let base : c.args.self.now.0 ≡ c.self.inside.base = ap (λ p. p.0) (sym c.self.view_is) in
    let target : c.args.self.now.1 ≡ c.self.inside.target = ap (λ p. p.1) (sym c.self.view_is) in
    rw c.in-Retain.is (allowed op c.args.self.now (Keep c.in-Retain.count) h (omega arith))

pub returns-else-count-max-clause-added : goal.returns-else-count-max-clause-added
returns-else-count-max-clause-added c op h =
    let base : c.args.self.now.0 ≡ c.self.inside.base = ap (λ p. p.0) (sym c.self.view_is) in
    let target : c.args.self.now.1 ≡ c.self.inside.target = ap (λ p. p.1) (sym c.self.view_is) in
    let p = has_lengths op c.args.self.now (Keep c.in-Retain.count) h in
    rw c.in-Retain.is (omega (arith, p.0), omega (arith, p.1))

pub returns-else-count-self-clause-long : goal.returns-else-count-self-clause-long
returns-else-count-self-clause-long c op h =
    let base : c.args.self.now.0 ≡ c.self.inside.base = ap (λ p. p.0) (sym c.self.view_is) in
    let target : c.args.self.now.1 ≡ c.self.inside.target = ap (λ p. p.1) (sym c.self.view_is) in
    let count : c.count-count.result ≡ length (chars c.in-Insert.text.now) = search (rules, chars_from_encodes) in
    rw c.in-Insert.is (allowed op c.args.self.now (Add (chars c.in-Insert.text.now)) h (omega arith))

pub returns-else-count-self-clause-added : goal.returns-else-count-self-clause-added
returns-else-count-self-clause-added c op h =
    let base : c.args.self.now.0 ≡ c.self.inside.base = ap (λ p. p.0) (sym c.self.view_is) in
    let target : c.args.self.now.1 ≡ c.self.inside.target = ap (λ p. p.1) (sym c.self.view_is) in
    let count : c.count-count.result ≡ length (chars c.in-Insert.text.now) = search (rules, chars_from_encodes) in
    let p = has_lengths op c.args.self.now (Add (chars c.in-Insert.text.now)) h in
    rw c.in-Insert.is (omega (arith, p.0), omega (arith, p.1))
