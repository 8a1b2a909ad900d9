use Rattle.std.proofs.Common.{rules, ◌≡◌, ◌<◌, length, subst, sym, vec_len}
use Rattle.std.specs.Prelude.{All}
use Rattle.handles.specs.Views.{machine}
use Rattle.journal.specs.Journals.{IsLegal}
use Rattle.locked_map.proofs.lending.closed_under.Goals as goal

pub returns : goal.returns
returns g c =
    let closed = c.in_ok-closed.closed in
    let kept = c.in_ok-closed.ensures in
    let same : closed.table.limits ≡ c.args.limits = search rules in
    let long : vec_len c.args.seats ≡ length c.args.seats.items = search rules in
    record {
      legal = subst (λ limits. IsLegal (machine g.K.Ord.cmp g.V.PartialEq.eq g.Q.Asks.target_of g.Q.Asks.answered) limits closed.journal closed.table) same kept.legal;
      known = subst (λ n. All (λ e. e.seat < n) closed.journal) long kept.seats;
      each = λ k s h. kept.own k s (subst (λ n. k < n) (sym long) h);
      floors = λ k s h. kept.floors k s (subst (λ n. k < n) (sym long) h);
      full = λ k s h. kept.full k s (subst (λ n. k < n) (sym long) h);
      unknown = λ k s h. kept.unknown k s (subst (λ n. k < n) (sym long) h);
    }
