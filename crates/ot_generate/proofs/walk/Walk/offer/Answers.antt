use Rattle.ot_generate.proofs.Resting.{none_before, none_next, still_possible}
use Rattle.ot_generate.proofs.walk.Walk.offer.Goals as goal

pub returns-clause-best : goal.returns-clause-best
returns-clause-best c =
    let w = c.args.self.now in
    let one = still_possible w c.args.choice.now.best c.edit.result c.offer.new.self.best c.requires.best c.edit.ensures c.offer.ensures in
    let two = still_possible w c.offer.new.self.best c.take.result c.offer-2.new.self.best one c.take.ensures.some c.offer-2.ensures in
    let three = still_possible w c.offer-2.new.self.best c.receipt.result c.offer-3.new.self.best two c.receipt.ensures.some c.offer-3.ensures in
    let four = still_possible w c.offer-3.new.self.best c.join.result c.offer-4.new.self.best three c.join.ensures c.offer-4.ensures in
    still_possible w c.offer-4.new.self.best c.read.result c.offer-5.new.self.best four c.read.ensures c.offer-5.ensures

pub returns-clause-none : goal.returns-clause-none
returns-clause-none c none =
    let four = none_before c.offer-4.new.self.best c.read.result c.offer-5.new.self.best c.offer-5.ensures none in
    let three = none_before c.offer-3.new.self.best c.join.result c.offer-4.new.self.best c.offer-4.ensures four in
    let two = none_before c.offer-2.new.self.best c.receipt.result c.offer-3.new.self.best c.offer-3.ensures three in
    let one = none_before c.offer.new.self.best c.take.result c.offer-2.new.self.best c.offer-2.ensures two in
    none_before c.args.choice.now.best c.edit.result c.offer.new.self.best c.offer.ensures one

pub returns-clause-rest : goal.returns-clause-rest
returns-clause-rest c none closed =
    let four = none_before c.offer-4.new.self.best c.read.result c.offer-5.new.self.best c.offer-5.ensures none in
    let three = none_before c.offer-3.new.self.best c.join.result c.offer-4.new.self.best c.offer-4.ensures four in
    let receipt = none_next c.offer-2.new.self.best c.receipt.result c.offer-3.new.self.best c.offer-3.ensures three in
    let two = none_before c.offer-2.new.self.best c.receipt.result c.offer-3.new.self.best c.offer-3.ensures three in
    let take = none_next c.offer.new.self.best c.take.result c.offer-2.new.self.best c.offer-2.ensures two in
    (c.take.ensures.none take closed, c.receipt.ensures.none receipt closed)
