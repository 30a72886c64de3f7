use Rattle.std.proofs.Common.{Ok, ap, arith}
use Rattle.passing.proofs.Passes.{divided, parted}
use Rattle.passing.proofs.work_out.divide.Goals as goal

pub share_column-requires : goal.share_column-requires
share_column-requires g c =
    let rule = g.R.SharingRule in
    let laws = g.met.R.SharingRule in
    let figures = c.args.figures.now in
    let able = parted rule.LONGEST (rule.share c.args.rule.now) (laws.sharing c.args.rule.now) laws.twelve figures.amount figures.permille figures.kws.now figures.mwhs.now c.requires c.in_ok-parts.parts c.in_ok-parts.ensures.pinned in
    record { some = c.requires.some; room = c.requires.room; sharable = able.kw }

pub share_column-requires-2 : goal.share_column-requires-2
share_column-requires-2 g c =
    let rule = g.R.SharingRule in
    let laws = g.met.R.SharingRule in
    let figures = c.args.figures.now in
    let able = parted rule.LONGEST (rule.share c.args.rule.now) (laws.sharing c.args.rule.now) laws.twelve figures.amount figures.permille figures.kws.now figures.mwhs.now c.requires c.in_ok-parts.parts c.in_ok-parts.ensures.pinned in
    let paired = c.requires.paired in
    let some = c.requires.some in
    let room = c.requires.room in
    record { some = omega arith; room = omega arith; sharable = able.mwh }

pub added-requires : goal.added-requires
added-requires g c =
    let rule = g.R.SharingRule in
    let laws = g.met.R.SharingRule in
    let figures = c.args.figures.now in
    let pass = divided rule.LONGEST (rule.share c.args.rule.now) (laws.sharing c.args.rule.now) laws.twelve figures.amount figures.permille figures.kws.now figures.mwhs.now c.requires c.in_ok-parts.parts c.in_ok-parts.ensures.pinned c.in_ok-kw.kw c.in_ok-mwh.mwh c.in_ok-kw.ensures c.in_ok-mwh.ensures in
    record { kw_bound = pass.kw_bound; mwh_bound = pass.mwh_bound }

pub returns : goal.returns
returns g c =
    let rule = g.R.SharingRule in
    let laws = g.met.R.SharingRule in
    let figures = c.args.figures.now in
    let pass = divided rule.LONGEST (rule.share c.args.rule.now) (laws.sharing c.args.rule.now) laws.twelve figures.amount figures.permille figures.kws.now figures.mwhs.now c.requires c.in_ok-parts.parts c.in_ok-parts.ensures.pinned c.in_ok-kw.kw c.in_ok-mwh.mwh c.in_ok-kw.ensures c.in_ok-mwh.ensures in
    ap Ok (pass.whole c.added.result c.added.ensures)
