use Rattle.std.proofs.Common.{ap, arith, length, refl, sym, ◌∙◌, subst}
use Rattle.std.specs.Option.{option_map}
use Rattle.ot_machine.specs.Effects.{reader_of, shown_by}
use Rattle.ot_isa.specs.Program.{Program, with_instr}
use Rattle.ot_generate.specs.Walks.{WalkView, IsMade, MayMake}
use Rattle.ot_generate.proofs.Moving.{has_room}
use Rattle.ot_generate.proofs.Walking.{goes_on}
use Rattle.ot_generate.proofs.walk.Walk.push.Goals as goal

pub append-requires-clause-fits : goal.append-requires-clause-fits
append-requires-clause-fits c =
    let w : WalkView = record { recorded = c.self.inside.recorded.program; state = c.self.inside.machine; room = c.self.inside.room; is_open = c.self.inside.is_open } in
    let may = subst (λ (v : WalkView). MayMake v c.args.instr) (sym c.self.view_is) c.requires in
    let less = has_room w c.perform.new.self c.args.instr (option_map (shown_by c.perform.new.self) (reader_of c.args.instr)) c.self.invariant may c.in-Ok.ensures.effect.led in
    let same = ap (λ (p : Program). length p.instrs) c.reserve.ensures.program in
    omega arith

pub invariant_of-self-2 : goal.invariant_of-self-2
invariant_of-self-2 c =
    let w : WalkView = record { recorded = c.self.inside.recorded.program; state = c.self.inside.machine; room = c.self.inside.room; is_open = c.self.inside.is_open } in
    let b : WalkView = record { recorded = c.append.new.recorded.program; state = c.perform.new.self; room = c.self.inside.room; is_open = c.self.inside.is_open } in
    let may = subst (λ (v : WalkView). MayMake v c.args.instr) (sym c.self.view_is) c.requires in
    let made : IsMade w c.args.instr b = record {
      recorded = c.append.ensures ∙ ap (λ (p : Program). with_instr p c.args.instr) c.reserve.ensures.program;
      room = refl;
      is_open = refl;
      shown = option_map (shown_by c.perform.new.self) (reader_of c.args.instr);
      row = c.in-Ok.ensures.effect.led;
    } in
    goes_on w b c.args.instr c.self.invariant may made c.clients-sound.ensures.sound
