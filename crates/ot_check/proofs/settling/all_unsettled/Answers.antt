use Rattle.std.proofs.Common.{sym, ◌∙◌, ap, arith, List}
use Rattle.std.specs.Prelude.{slice_get, None}
use Rattle.ot_check.specs.declared.outcome.Unsettled.{Unsettled}
use Rattle.ot_check.specs.Convergence.{all_unsettled_at, answer_of}
use Rattle.ot_check.proofs.AllAnswers.{all-more, all-end, answer-of-all, none-quiet}
use Rattle.ot_check.proofs.settling.all_unsettled.Goals as goal

pub loop-client-preserved : goal.loop-client-preserved
loop-client-preserved c =
    let s = c.args.machine.now in
    c.loop-client.invariant ∙ all-more (all_unsettled_at s) s.clients c.loop-client.client c.loop-client.found.items c.push_unsettled.new.found.items c.in_ok-push_unsettled.ensures

pub returns-clause-exact : goal.returns-clause-exact
returns-clause-exact c =
    let s = c.args.machine.now in
    sym (c.loop-client.invariant ∙ all-end (all_unsettled_at s) s.clients c.loop-client.client c.loop-client.found.items (omega arith))

pub returns-clause-first : goal.returns-clause-first
returns-clause-first c =
    let s = c.args.machine.now in
    let exact = c.loop-client.invariant ∙ all-end (all_unsettled_at s) s.clients c.loop-client.client c.loop-client.found.items (omega arith) in
    answer-of-all s c.clients-client-end.ensures.sound ∙ ap (λ (l : List Unsettled). answer_of (slice_get l 0) None) exact

pub returns-clause-quiet : goal.returns-clause-quiet
returns-clause-quiet c =
    let s = c.args.machine.now in
    let exact = c.loop-client.invariant ∙ all-end (all_unsettled_at s) s.clients c.loop-client.client c.loop-client.found.items (omega arith) in
    let both = none-quiet s in
    (λ none. both.0 (exact ∙ none), λ quiet. sym exact ∙ both.1 quiet)
