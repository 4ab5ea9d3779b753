-- A session in whichever state.
use Rattle.ot_model.specs.Session.{Session}
use Rattle.ot_board.specs.declared.lent.Lent.{Lent}
use Rattle.ot_board.specs.declared.lent.Lent.TheVariants as lent

abbrev pub session_of : Lent → Session
session_of (lent.Synchronized session) = session
session_of (lent.AwaitingConfirm session) = session
session_of (lent.AwaitingWithBuffer session) = session
