-- What a refusal is to a worker: a full record and out of memory go by their names, and any other is `Refused`.
use Rattle.ot_board.specs.declared.refusal.BoardRefusal.{BoardRefusal}
use Rattle.ot_board.specs.declared.refusal.BoardRefusal.TheVariants as board
use Rattle.ot_board.specs.declared.refusal.SettleRefusal.{SettleRefusal}
use Rattle.ot_board.specs.declared.refusal.SettleRefusal.TheVariants as settle
use Rattle.ot_board.specs.declared.refusal.SessionRefusal.{SessionRefusal}
use Rattle.ot_board.specs.declared.refusal.SessionRefusal.TheVariants as session
use Rattle.ot_workers.specs.declared.fault.WorkFault.{WorkFault}
use Rattle.ot_workers.specs.declared.fault.WorkFault.TheVariants.{RecordFull, Memory, Refused}

abbrev pub board_fault : BoardRefusal → WorkFault
board_fault board.NoSuchClient = Refused
board_fault board.NotJoined = Refused
board_fault board.AlreadyJoined = Refused
board_fault board.Out = Refused
board_fault board.NotParked = Refused
board_fault board.RecordFull = RecordFull
board_fault board.LinkEmpty = Refused
board_fault board.Memory = Memory

abbrev pub settle_fault : SettleRefusal → WorkFault
settle_fault settle.Stranger = Refused
settle_fault settle.Memory = Memory

abbrev pub session_fault : SessionRefusal → WorkFault
session_fault session.BadBase = Refused
session_fault session.ClientFull = Refused
session_fault session.SessionFull = Refused
session_fault session.LinkEmpty = Refused
session_fault session.WrongHead = Refused
session_fault session.Memory = Memory
