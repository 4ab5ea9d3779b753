use Rattle.std.proofs.Common.{◌≡◌, ℕ, ◌<◌, List, [], length, set, take, rules, arith, refl, sym, ap, ◌∙◌, subst, Option, Some, true, false, length-set}
use Rattle.std.specs.Prelude.{slice_get}
use Rattle.std.specs.List.{All}
use Rattle.std.proofs.lemmas.List.{length-take}
use Rattle.std.proofs.lemmas.List.Elements.{All-take}
use Rattle.std.proofs.lemmas.Option.{slice_get_within}
use Rattle.ot_isa.specs.declared.instruction.Instr.{Instr}
use Rattle.ot_isa.specs.Program.{Program, IsForClients}
use Rattle.ot_model.specs.Session.{RunsTo}
use Rattle.ot_board.specs.declared.refusal.SettleRefusal.{SettleRefusal}
use Rattle.ot_board.specs.Lents.{session_of}
use Rattle.ot_board.specs.Boards.{BoardView, IsAwaited, IsHere, IsStop, board_in, with_steps}
use Rattle.ot_board.proofs.Owning.{all_own}
use Rattle.ot_board.proofs.Boarding.{kept, outside_less, waiting_less}
use Rattle.ot_board.proofs.Performing.{none_refused}
use Rattle.ot_board.proofs.board.Board.replay.Goals as goal

pub append_all-requires-clause-clients : goal.append_all-requires-clause-clients
append_all-requires-clause-clients c =
    let b = board_in c.self.inside.machine c.self.inside.recorded.program c.self.inside.out.items c.self.inside.slots.items in
    let x = session_of c.args.lent in
    let here : IsAwaited b x = subst (λ (v : BoardView). IsAwaited v (session_of c.args.lent)) (sym c.self.view_is) (c.if-not-is_awaited.ensures.0 (search rules)) in
    let k = c.perform_first-count.result.0 in
    let program : c.reserve.new.self.program ≡ b.recorded = c.reserve.ensures.program in
    let steps : c.in-Ok.performed.items ≡ x.steps = c.in-Ok.ensures ∙ c.steps.ensures.steps in
    let front : c.truncate-2.new.self.items ≡ take k x.steps = c.truncate-2.ensures.items ∙ ap (take k) steps in
    let inside : x.start.number < b.recorded.clients = subst (λ (n : ℕ). x.start.number < n) c.self.invariant.outs (slice_get_within b.out x.start.number true here.0) in
    let leads = c.steps.ensures.allowed.leads in
    let all = all_own b.recorded.clients x.steps (record { part = x.start; shown = [] }) (record { part = x.now; shown = leads.0 }) inside leads.1 in
    subst (λ (p : Program). All (IsForClients p.clients) c.truncate-2.new.self.items) (sym program)
    (subst (λ (is : List Instr). All (IsForClients b.recorded.clients) is) (sym front) (All-take (IsForClients b.recorded.clients) k x.steps all))

pub append_all-requires-clause-fits : goal.append_all-requires-clause-fits
append_all-requires-clause-fits c =
    let b = board_in c.self.inside.machine c.self.inside.recorded.program c.self.inside.out.items c.self.inside.slots.items in
    let x = session_of c.args.lent in
    let here : IsAwaited b x = subst (λ (v : BoardView). IsAwaited v (session_of c.args.lent)) (sym c.self.view_is) (c.if-not-is_awaited.ensures.0 (search rules)) in
    let k = c.perform_first-count.result.0 in
    let program : c.reserve.new.self.program ≡ b.recorded = c.reserve.ensures.program in
    let steps : c.in-Ok.performed.items ≡ x.steps = c.in-Ok.ensures ∙ c.steps.ensures.steps in
    let front : c.truncate-2.new.self.items ≡ take k x.steps = c.truncate-2.ensures.items ∙ ap (take k) steps in
    let less = outside_less b.out x.start.number here.0 in
    let few = c.steps.ensures.allowed.few in
    let fits = c.self.invariant.fits in
    let long = ap (λ (p : Program). length p.instrs) program in
    let many = ap (λ (is : List Instr). length is) front in
    let some = length-take k x.steps in
    omega arith

pub index_mut-requires : goal.index_mut-requires
index_mut-requires c =
    let b = board_in c.self.inside.machine c.self.inside.recorded.program c.self.inside.out.items c.self.inside.slots.items in
    let x = session_of c.args.lent in
    let here : IsAwaited b x = subst (λ (v : BoardView). IsAwaited v (session_of c.args.lent)) (sym c.self.view_is) (c.if-not-is_awaited.ensures.0 (search rules)) in
    let within = slice_get_within b.out x.start.number true here.0 in
    let same = c.client-client.ensures in
    search rules

pub invariant_of-self-2 : goal.invariant_of-self-2
invariant_of-self-2 c =
    let b = board_in c.self.inside.machine c.self.inside.recorded.program c.self.inside.out.items c.self.inside.slots.items in
    let x = session_of c.args.lent in
    let here : IsAwaited b x = subst (λ (v : BoardView). IsAwaited v (session_of c.args.lent)) (sym c.self.view_is) (c.if-not-is_awaited.ensures.0 (search rules)) in
    let k = c.perform_first-count.result.0 in
    let program : c.reserve.new.self.program ≡ b.recorded = c.reserve.ensures.program in
    let steps : c.in-Ok.performed.items ≡ x.steps = c.in-Ok.ensures ∙ c.steps.ensures.steps in
    let front : c.truncate-2.new.self.items ≡ take k x.steps = c.truncate-2.ensures.items ∙ ap (take k) steps in
    let n = c.client-client.result in
    let same : n ≡ x.start.number = c.client-client.ensures in
    let a = board_in c.perform_first-count.new.machine c.append_all.new.builder.program (set c.self.inside.out.items n false) c.self.inside.slots.items in
    let at : slice_get b.out n ≡ Some true = ap (λ (d : ℕ). slice_get b.out d) same ∙ here.0 in
    let less = outside_less b.out n at in
    let few = c.steps.ensures.allowed.few in
    let fits = c.self.invariant.fits in
    let some = length-take k x.steps in
    let recorded : a.recorded ≡ with_steps b.recorded (take k x.steps) =
    c.append_all.ensures ∙ ap (λ (p : Program). with_steps p c.truncate-2.new.self.items) program ∙ ap (λ (is : List Instr). with_steps b.recorded is) front in
    let ran : RunsTo b.state (take k x.steps) a.state =
    subst (λ (is : List Instr). RunsTo b.state (take k is) a.state) (c.as_slice.ensures.value ∙ c.into_steps-steps.ensures.steps) c.perform_first-count.ensures.ran in
    kept b a (take k x.steps) c.self.invariant recorded ran (omega arith) (length-set b.out n false) refl (waiting_less b n c.self.invariant (ap (λ (d : ℕ). slice_get b.parked d) same ∙ here.1))

pub returns-clause-here : goal.returns-clause-here
returns-clause-here c here is =
    let b = board_in c.self.inside.machine c.self.inside.recorded.program c.self.inside.out.items c.self.inside.slots.items in
    let x = session_of c.args.lent in
    let k = c.perform_first-count.result.0 in
    let m = c.perform_first-count.new.machine in
    let all : c.as_slice.result.now ≡ x.steps = c.as_slice.ensures.value ∙ c.into_steps-steps.ensures.steps in
    let begins = (subst (λ (v : BoardView). IsHere v (session_of c.args.lent)) (sym c.self.view_is) here).2 in
    let ran : RunsTo b.state (take k x.steps) m = subst (λ (js : List Instr). RunsTo b.state (take k js) m) all c.perform_first-count.ensures.ran in
    let stop = subst (λ (js : List Instr). IsStop m js k c.perform_first-count.result.1) all c.perform_first-count.ensures.stop in
    none_refused b x c.self.invariant c.steps.ensures.allowed begins k m ran (subst (λ (o : Option SettleRefusal). IsStop m x.steps k o) is stop)
