use Rattle.std.proofs.Common.{◌∙◌, sym}
use Rattle.desk.proofs.Deciding.{refused_not_yours, refused_unloaded, refused_full, accepted}
use Rattle.desk.proofs.asked.refusal.Goals as goal

pub returns-then-not-is_at-clause-decided : goal.returns-then-not-is_at-clause-decided
returns-then-not-is_at-clause-decided g c = λ rules.
    refused_not_yours (g.V.View.tree c.args.rows.now.view) rules c.args.log.now.entries c.args.renderer c.args.request.now c.asker_of-doc.result c.home_if_been_active-home.result
    (record { tree = c.requires.tree; doc_is = c.asker_of-doc.ensures; home_is = c.home_if_been_active-home.ensures.value; asks = c.requires.asks }) (sym c.is_at.ensures ∙ c.if-not-is_at.true)

pub returns-then-not-is_active-clause-decided : goal.returns-then-not-is_active-clause-decided
returns-then-not-is_active-clause-decided g c = λ rules.
    refused_unloaded (g.V.View.tree c.args.rows.now.view) rules c.args.log.now.entries c.args.renderer c.args.request.now c.asker_of-doc.result c.home_if_been_active-home.result c.is_active.result c.place_of-place.result
    (record { tree = c.requires.tree; doc_is = c.asker_of-doc.ensures; home_is = c.home_if_been_active-home.ensures.value; asks = c.requires.asks }) (sym c.is_at.ensures ∙ c.if-not-is_at.false) c.is_active.ensures c.if-not-is_active.true c.place_of-place.ensures

pub returns-then-is_full_log-clause-decided : goal.returns-then-is_full_log-clause-decided
returns-then-is_full_log-clause-decided g c = λ rules.
    refused_full (g.V.View.tree c.args.rows.now.view) rules c.args.log.now.entries c.args.renderer c.args.request.now c.asker_of-doc.result c.home_if_been_active-home.result c.is_active.result c.is_full_log.result c.len.result
    (record { tree = c.requires.tree; doc_is = c.asker_of-doc.ensures; home_is = c.home_if_been_active-home.ensures.value; asks = c.requires.asks }) (sym c.is_at.ensures ∙ c.if-not-is_at.false) c.is_active.ensures c.if-not-is_active.false c.is_full_log.ensures c.if-is_full_log.true c.len.ensures

pub returns-clause-decided : goal.returns-clause-decided
returns-clause-decided g c = λ rules.
    accepted (g.V.View.tree c.args.rows.now.view) rules c.args.log.now.entries c.args.renderer c.args.request.now c.asker_of-doc.result c.home_if_been_active-home.result c.is_active.result c.is_full_log.result
    (record { tree = c.requires.tree; doc_is = c.asker_of-doc.ensures; home_is = c.home_if_been_active-home.ensures.value; asks = c.requires.asks }) (sym c.is_at.ensures ∙ c.if-not-is_at.false) c.is_active.ensures c.if-not-is_active.false c.is_full_log.ensures c.if-is_full_log.false
