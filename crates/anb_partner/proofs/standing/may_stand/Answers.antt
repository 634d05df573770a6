use Rattle.anb_term.specs.View.{tree_of}
use Rattle.anb_partner.proofs.Formed.{stands, stands_not}
use Rattle.anb_partner.proofs.standing.may_stand.Goals as goal

pub returns-in-Some : goal.returns-in-Some
returns-in-Some c =
    stands c.args.p.now c.formats-formats.result.now c.formats-formats.ensures (tree_of c.args.t.now) c.fits.result (c.is_formed.ensures.0 c.if-is_formed.true) c.in-Some.ensures.0 c.fits.ensures

pub returns-else-is_formed : goal.returns-else-is_formed
returns-else-is_formed c =
    stands_not c.args.p.now c.formats-formats.result.now c.formats-formats.ensures (tree_of c.args.t.now) c.is_formed.result c.if-is_formed.false c.is_formed.ensures.1
