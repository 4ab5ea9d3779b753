use Rattle.ot_operation.proofs.OperationLaws.{is_operation}
use Rattle.ot_codes.specs.Codes.{runs_of}
use Rattle.ot_codes.proofs.codes.Codes.sum.Goals as goal

pub returns-clause-operation : goal.returns-clause-operation
returns-clause-operation c = is_operation (runs_of c.self.inside.list) c.args.self.now c.self.view_is
