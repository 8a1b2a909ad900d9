use Rattle.std.proofs.Common.{sym, subst}
use Rattle.std.proofs.lemmas.List.Elements.{All-push}
use Rattle.std.specs.Prelude.{All}
use Rattle.stripe.specs.Contents.{IsPart}
use Rattle.stripes.proofs.Lending.{digits_more}
use Rattle.stripes.proofs.parting.parted.Goals as goal

pub loop-digit-preserved : goal.loop-digit-preserved
loop-digit-preserved g c =
    let of = IsPart g.K.Ord.cmp g.K.PathKey.path_of c.args.whole.now.entries in
    let push = c.in_ok-push.ensures.items in
    record {
      parts = subst (All of) (sym push) (All-push of c.loop-digit.stripes.items c.in_ok-part_of.field-0 c.loop-digit.invariant.parts c.in_ok-part_of.ensures.part);
      digits = digits_more c.loop-digit.stripes.items c.push.new.self.items c.in_ok-part_of.field-0 c.loop-digit.digit push c.loop-digit.invariant.digits c.in_ok-part_of.ensures.digit;
    }
