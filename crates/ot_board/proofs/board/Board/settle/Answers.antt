use Rattle.std.proofs.Common.{◌≡◌, ℕ, ◌<◌, List, [], length, set, rules, arith, refl, sym, ap, ◌∙◌, subst, Some, true, false}
use Rattle.std.specs.Prelude.{slice_get}
use Rattle.std.specs.List.{All}
use Rattle.std.proofs.lemmas.Option.{slice_get_within}
use Rattle.ot_isa.specs.declared.instruction.Instr.{Instr}
use Rattle.ot_isa.specs.Program.{Program, IsForClients}
use Rattle.ot_model.specs.Session.{RunsTo}
use Rattle.ot_board.specs.Lents.{session_of}
use Rattle.ot_board.specs.Boards.{BoardView, IsHere, board_in, with_steps}
use Rattle.ot_board.proofs.Owning.{all_own}
use Rattle.ot_board.proofs.Boarding.{kept, outside_less, waiting_less}
use Rattle.std.proofs.Common.{length-set}
use Rattle.ot_board.proofs.board.Board.settle.Goals as goal

pub append_all-requires-clause-clients : goal.append_all-requires-clause-clients
append_all-requires-clause-clients c =
    let b = board_in c.self.inside.machine c.self.inside.recorded.program c.self.inside.out.items c.self.inside.slots.items in
    let x = session_of c.args.lent in
    let here : IsHere b x = subst (λ (v : BoardView). IsHere v (session_of c.args.lent)) (sym c.self.view_is) (c.if-not-is_here.ensures.0 (search rules)) in
    let program : c.reserve.new.self.program ≡ b.recorded = c.reserve.ensures.program in
    let steps : c.in-Ok.copies.items ≡ x.steps = c.in-Ok.ensures ∙ c.steps.ensures.steps in
    let inside : x.start.number < b.recorded.clients = subst (λ (n : ℕ). x.start.number < n) c.self.invariant.clients (slice_get_within b.state.clients x.start.number here.2.client here.2.at) in
    let leads = c.steps.ensures.allowed.leads in
    let all = all_own b.recorded.clients x.steps (record { part = x.start; shown = [] }) (record { part = x.now; shown = leads.0 }) inside leads.1 in
    subst (λ (p : Program). All (IsForClients p.clients) c.in-Ok.copies.items) (sym program) (subst (λ (is : List Instr). All (IsForClients b.recorded.clients) is) (sym steps) all)

pub append_all-requires-clause-fits : goal.append_all-requires-clause-fits
append_all-requires-clause-fits c =
    let b = board_in c.self.inside.machine c.self.inside.recorded.program c.self.inside.out.items c.self.inside.slots.items in
    let x = session_of c.args.lent in
    let here : IsHere b x = subst (λ (v : BoardView). IsHere v (session_of c.args.lent)) (sym c.self.view_is) (c.if-not-is_here.ensures.0 (search rules)) in
    let program : c.reserve.new.self.program ≡ b.recorded = c.reserve.ensures.program in
    let steps : c.in-Ok.copies.items ≡ x.steps = c.in-Ok.ensures ∙ c.steps.ensures.steps in
    let less = outside_less b.out x.start.number here.0 in
    let few = c.steps.ensures.allowed.few in
    let fits = c.self.invariant.fits in
    let long = ap (λ (p : Program). length p.instrs) program in
    let many = ap (λ (is : List Instr). length is) steps in
    omega arith

pub index_mut-requires : goal.index_mut-requires
index_mut-requires c =
    let b = board_in c.self.inside.machine c.self.inside.recorded.program c.self.inside.out.items c.self.inside.slots.items in
    let x = session_of c.args.lent in
    let here : IsHere b x = subst (λ (v : BoardView). IsHere v (session_of c.args.lent)) (sym c.self.view_is) (c.if-not-is_here.ensures.0 (search rules)) in
    let program : c.reserve.new.self.program ≡ b.recorded = c.reserve.ensures.program in
    let steps : c.in-Ok.copies.items ≡ x.steps = c.in-Ok.ensures ∙ c.steps.ensures.steps in
    let within = slice_get_within b.out x.start.number true here.0 in
    let same = c.client-client.ensures in
    search rules

pub invariant_of-self-2 : goal.invariant_of-self-2
invariant_of-self-2 c =
    let b = board_in c.self.inside.machine c.self.inside.recorded.program c.self.inside.out.items c.self.inside.slots.items in
    let x = session_of c.args.lent in
    let here : IsHere b x = subst (λ (v : BoardView). IsHere v (session_of c.args.lent)) (sym c.self.view_is) (c.if-not-is_here.ensures.0 (search rules)) in
    let program : c.reserve.new.self.program ≡ b.recorded = c.reserve.ensures.program in
    let steps : c.in-Ok.copies.items ≡ x.steps = c.in-Ok.ensures ∙ c.steps.ensures.steps in
    let n = c.client-client.result in
    let same : n ≡ x.start.number = c.client-client.ensures in
    let a = board_in c.install.new.self c.append_all.new.builder.program (set c.self.inside.out.items n false) c.self.inside.slots.items in
    let at : slice_get b.out n ≡ Some true = ap (λ (k : ℕ). slice_get b.out k) same ∙ here.0 in
    let less = outside_less b.out n at in
    let few = c.steps.ensures.allowed.few in
    let fits = c.self.invariant.fits in
    let recorded : a.recorded ≡ with_steps b.recorded x.steps =
    c.append_all.ensures ∙ ap (λ (p : Program). with_steps p c.in-Ok.copies.items) program ∙ ap (λ (is : List Instr). with_steps b.recorded is) steps in
    let ran : RunsTo b.state x.steps a.state = subst (λ (is : List Instr). RunsTo b.state is a.state) (c.as_slice.ensures.value ∙ c.into_remains-start.ensures.steps) c.install.ensures in
    kept b a x.steps c.self.invariant recorded ran (omega arith) (length-set b.out n false) refl (waiting_less b n c.self.invariant (ap (λ (k : ℕ). slice_get b.parked k) same ∙ here.1))
