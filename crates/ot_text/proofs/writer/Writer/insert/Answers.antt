use Rattle.std.proofs.Common.{refl}
use Rattle.ot_text.proofs.Writing.{put_text}
use Rattle.ot_text.proofs.writer.Writer.insert.Goals as goal

pub returns : goal.returns
returns g c = put_text g.T.Item.CAP g.T.Item.total c.args.old.now c.args.self.now _ c.args.text.now c.requires c.in_ok-extend.ensures refl
