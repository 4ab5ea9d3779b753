-- The program's parts of clients as the model's.
use Rattle.std.specs.Prelude.{◌≡◌, List, ◌++◌, map, Some}
use Rattle.std.specs.Option.{option_map}
use Rattle.ot_client.specs.Client.{message_of}
use Rattle.ot_model.specs.Table as table
use Rattle.ot_model.specs.Part as model
use Rattle.ot_machine.specs.declared.part.Message.{Message}
use Rattle.ot_machine.specs.declared.part.Message.TheVariants.{Ack, Op}
use Rattle.ot_machine.specs.declared.part.Part.{Part}
use Rattle.ot_machine.specs.Seats.{phase_of, revision_of}

-- a message as the table's
abbrev pub head_in : Message → table.Head
head_in Ack = table.Ack
head_in (Op op) = table.Op op

-- a part as the model's; what it sent is its client's message
abbrev pub part_in : Part → model.Part
part_in part =
    record {
      number = part.number;
      client = record {
        revision = revision_of (Some part.client);
        phase = phase_of (Some part.client);
        list = part.list;
        count = part.count;
        message = option_map message_of part.sent;
      };
      incoming = map head_in part.incoming.items;
    }

-- the messages are the first ones of a downlink
abbrev pub AreFirst : List table.Head → List table.Head → Type 0
AreFirst messages downlink = (rest : List table.Head) × (downlink ≡ messages ++ rest)
