use Rattle.std.proofs.Common.{ap, refl, ◌∙◌, subst}
use Rattle.std.specs.Option.{option_map}
use Rattle.ot_isa.specs.declared.instruction.Instr.{Instr}
use Rattle.ot_isa.specs.Program.{Program, with_instr}
use Rattle.ot_machine.specs.Effects.{reader_of, shown_by}
use Rattle.ot_generate.specs.Walks.{WalkView, IsMade}
use Rattle.ot_generate.proofs.Draining.{may_follow_view}
use Rattle.ot_generate.proofs.Walking.{goes_on}
use Rattle.ot_generate.proofs.walk.Walk.follow.Goals as goal

pub invariant_of-self-2 : goal.invariant_of-self-2
invariant_of-self-2 c =
    let i = c.args.instr.now in
    let w : WalkView = record { recorded = c.self.inside.recorded.program; state = c.self.inside.machine; room = c.self.inside.room; is_open = c.self.inside.is_open } in
    let b : WalkView = record { recorded = c.append.new.recorded.program; state = c.perform.new.self; room = c.self.inside.room; is_open = c.self.inside.is_open } in
    let made : IsMade w i b = record {
      recorded = c.append.ensures ∙ ap (λ (p : Program). with_instr p c.in_ok-copy.copy) c.in_ok-reserve.ensures.program ∙ ap (λ (j : Instr). with_instr w.recorded j) c.in_ok-copy.ensures;
      room = refl;
      is_open = refl;
      shown = option_map (shown_by c.perform.new.self) (reader_of c.args.instr.now);
      row = c.in_ok-perform.ensures.effect.led;
    } in
    let may = may_follow_view w c.args.self.now i b.state made.shown c.self.view_is c.requires.is_open c.requires.room c.requires.client made.row in
    goes_on w b i c.self.invariant may made c.clients-sound.ensures.sound

pub returns-clause-ok : goal.returns-clause-ok
returns-clause-ok c =
    let i = c.args.instr.now in
    let w : WalkView = record { recorded = c.self.inside.recorded.program; state = c.self.inside.machine; room = c.self.inside.room; is_open = c.self.inside.is_open } in
    let b : WalkView = record { recorded = c.append.new.recorded.program; state = c.perform.new.self; room = c.self.inside.room; is_open = c.self.inside.is_open } in
    let made : IsMade w i b = record {
      recorded = c.append.ensures ∙ ap (λ (p : Program). with_instr p c.in_ok-copy.copy) c.in_ok-reserve.ensures.program ∙ ap (λ (j : Instr). with_instr w.recorded j) c.in_ok-copy.ensures;
      room = refl;
      is_open = refl;
      shown = option_map (shown_by c.perform.new.self) (reader_of c.args.instr.now);
      row = c.in_ok-perform.ensures.effect.led;
    } in
    subst (λ (v : WalkView). IsMade v i b) c.self.view_is made
