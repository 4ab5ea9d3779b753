use Rattle.std.proofs.Common.{rules, ap, refl}
use Rattle.std.specs.Option.{option_map}
use Rattle.ot_client.specs.Client.{message_of}
use Rattle.ot_machine.specs.Parts.{part_in}
use Rattle.ot_machine.proofs.Installing.{revision_rises, client_here, may_push, installed_done}
use Rattle.ot_machine.proofs.machine.Machine.install.Goals as goal

pub overflow_sub-used : goal.overflow_sub-used
overflow_sub-used c =
    search (rules, revision_rises (part_in c.args.start.now) (part_in c.args.now) c.args.steps.now c.args.self.now c.requires.begins (ap (option_map message_of) c.requires.unsent) c.requires.leads)

pub index_mut-seat-requires : goal.index_mut-seat-requires
index_mut-seat-requires c =
    search (
      rules,
      client_here c.self.inside.server c.self.inside.seats.items c.self.inside.steps (part_in c.args.start.now) (part_in c.args.now) c.args.steps.now c.args.self.now
          (record { kept = c.self.invariant; value = c.self.view_is; begins = c.requires.begins; unsent = ap (option_map message_of) c.requires.unsent; instrs = c.requires.instrs; leads = c.requires.leads; room = c.requires.room }),
    )

pub settle-requires : goal.settle-requires
settle-requires c =
    may_push c.self.inside.server c.self.inside.seats.items c.self.inside.steps (part_in c.args.start.now) (part_in c.args.now) c.args.steps.now c.args.self.now c.index_mut-seat.result.now c.args.now.sent
    (record { kept = c.self.invariant; value = c.self.view_is; begins = c.requires.begins; unsent = ap (option_map message_of) c.requires.unsent; instrs = c.requires.instrs; leads = c.requires.leads; room = c.requires.room })
    c.index_mut-seat.ensures.value refl

pub invariant_of-self : goal.invariant_of-self
invariant_of-self c =
    (installed_done c.self.inside.server c.self.inside.seats.items c.self.inside.steps (part_in c.args.start.now) (part_in c.args.now) c.args.steps.now c.args.self.now c.index_mut-seat.result.now c.settle.new.seat _
    (record { kept = c.self.invariant; value = c.self.view_is; begins = c.requires.begins; unsent = ap (option_map message_of) c.requires.unsent; instrs = c.requires.instrs; leads = c.requires.leads; room = c.requires.room })
    c.index_mut-seat.ensures.value c.settle.ensures.client (search (rules, c.settle.ensures.down)) refl).kept

pub returns : goal.returns
returns c =
    (installed_done c.self.inside.server c.self.inside.seats.items c.self.inside.steps (part_in c.args.start.now) (part_in c.args.now) c.args.steps.now c.args.self.now c.index_mut-seat.result.now c.settle.new.seat _
    (record { kept = c.self.invariant; value = c.self.view_is; begins = c.requires.begins; unsent = ap (option_map message_of) c.requires.unsent; instrs = c.requires.instrs; leads = c.requires.leads; room = c.requires.room })
    c.index_mut-seat.ensures.value c.settle.ensures.client (search (rules, c.settle.ensures.down)) refl).runs
