use Rattle.std.proofs.Common.{◌≡◌, ◌∷◌, ◌∙◌, true, ap, sym, subst, arith, length}
use Rattle.tree_log.specs.Admits.{admits}
use Rattle.tree_log.specs.Tree.{tree_after, tree_of_step}
use Rattle.tree_log.specs.Urls.{urls_after, url_of_step}
use Rattle.link_exchange.specs.Beginning.{IsViewOf}
use Rattle.link_exchange.proofs.replica.Replica.hear.Goals as goal

pub invariant_of-self-2 : goal.invariant_of-self-2
invariant_of-self-2 g c =
    let i = c.self.invariant in
    let e = c.args.entry in
    let log = c.self.inside.log.entries in
    let all : c.push.new.self.entries ≡ e ∷ log = c.in_ok-push.ensures.ok ∙ ap (λ es. e ∷ es) c.in_ok-reserve.ensures.entries in
    let admitted : c.admits.result ≡ true = search in
    subst (λ es. IsViewOf g.V.View.tree g.V.View.urls c.apply.new.self es) (sym all)
    (record {
      tree_is = c.in_ok-apply.ensures.ok ∙ ap (λ t. tree_after t e) i.tree_is ∙ sym (tree_of_step e log);
      urls_are = c.in_ok-apply.ensures.urls_ok ∙ ap (λ u. urls_after u e) i.urls_are ∙ sym (url_of_step e log);
      admitted = (sym (ap (λ t. admits t e) i.tree_is) ∙ sym c.admits.ensures ∙ admitted, i.admitted);
      fit = (c.requires.fit, i.fit);
      few = omega (arith, c.requires.few, ap length c.self.view_is);
    })
