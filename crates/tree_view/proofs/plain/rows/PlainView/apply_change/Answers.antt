use Rattle.std.proofs.Common.{◌∙◌, [], ◌∷◌, ◌++◌, set, get_or, Some, sym, ap, arith}
use Rattle.tree_log.specs.declared.entry.What.TheVariants.{Drop, Name, Begin, Commit, Fragment, Opener, Post, Fire, Lapse, Closing, Gone, Lost, Sync, Hidden, Domain}
use Rattle.tree_view.specs.declared.plain.rows.DocRow.{DocRow}
use Rattle.tree_view.specs.Rows.{no_nav, no_doc}
use Rattle.tree_view.specs.Shown.{known, tree_shown}
use Rattle.tree_view.proofs.After.{after_drop, after_gone, after_closing, after_name, after_opener, after_commit, after_fragment, after_begin, after_post, after_fire, after_lapse, after_lost, after_sync, after_hidden, after_domain}
use Rattle.tree_view.proofs.Fits.{room, drop_fits, name_fits, closing_fits, gone_fits, opener_fits, fragment_fits, domain_fits, commit_fits, begin_fits}
use Rattle.tree_view.proofs.NewLaws.{of_rows, kind_is}
use Rattle.tree_view.proofs.plain.rows.PlainView.apply_change.Goals as goal

pub write_drop-requires-clause-nav : goal.write_drop-requires-clause-nav
write_drop-requires-clause-nav c = drop_fits (tree_shown c.args.self.now) c.args.entry.now c.in-Drop.nav c.in-Drop.is c.requires.admitted

pub write_drop-requires-clause-room : goal.write_drop-requires-clause-room
write_drop-requires-clause-room c = room (tree_shown c.args.self.now) c.args.entry.now c.requires.admitted

pub write_name-requires-clause-nav : goal.write_name-requires-clause-nav
write_name-requires-clause-nav c = name_fits (tree_shown c.args.self.now) c.args.entry.now c.in-Name.nav c.in-Name.name c.in-Name.is c.requires.admitted

pub write_name-requires-clause-room : goal.write_name-requires-clause-room
write_name-requires-clause-room c = room (tree_shown c.args.self.now) c.args.entry.now c.requires.admitted

pub write_begin-requires-clause-nav : goal.write_begin-requires-clause-nav
write_begin-requires-clause-nav c = (begin_fits (tree_shown c.args.self.now) c.args.entry.now c.in-Begin.nav c.in-Begin.load c.in-Begin.is c.requires.admitted).0

pub write_begin-requires-clause-doc : goal.write_begin-requires-clause-doc
write_begin-requires-clause-doc c = sym (begin_fits (tree_shown c.args.self.now) c.args.entry.now c.in-Begin.nav c.in-Begin.load c.in-Begin.is c.requires.admitted).1

pub write_begin-requires-clause-few : goal.write_begin-requires-clause-few
write_begin-requires-clause-few c = let fits = (begin_fits (tree_shown c.args.self.now) c.args.entry.now c.in-Begin.nav c.in-Begin.load c.in-Begin.is c.requires.admitted) in omega (arith, fits.1, fits.2)

pub write_begin-requires-clause-room : goal.write_begin-requires-clause-room
write_begin-requires-clause-room c = room (tree_shown c.args.self.now) c.args.entry.now c.requires.admitted

pub write_commit-requires-clause-nav : goal.write_commit-requires-clause-nav
write_commit-requires-clause-nav c = (commit_fits (tree_shown c.args.self.now) c.args.entry.now c.in-Commit.nav c.in-Commit.doc c.in-Commit.begin c.in-Commit.is c.requires.admitted).0

pub write_commit-requires-clause-doc : goal.write_commit-requires-clause-doc
write_commit-requires-clause-doc c = (commit_fits (tree_shown c.args.self.now) c.args.entry.now c.in-Commit.nav c.in-Commit.doc c.in-Commit.begin c.in-Commit.is c.requires.admitted).1

pub write_commit-requires-clause-own : goal.write_commit-requires-clause-own
write_commit-requires-clause-own c = (commit_fits (tree_shown c.args.self.now) c.args.entry.now c.in-Commit.nav c.in-Commit.doc c.in-Commit.begin c.in-Commit.is c.requires.admitted).2

pub write_commit-requires-clause-room : goal.write_commit-requires-clause-room
write_commit-requires-clause-room c = room (tree_shown c.args.self.now) c.args.entry.now c.requires.admitted

pub write_url-requires-clause-doc : goal.write_url-requires-clause-doc
write_url-requires-clause-doc c = fragment_fits (tree_shown c.args.self.now) c.args.entry.now c.in-Fragment.nav c.in-Fragment.doc c.in-Fragment.url c.in-Fragment.is c.requires.admitted

pub write_url-requires-clause-room : goal.write_url-requires-clause-room
write_url-requires-clause-room c = room (tree_shown c.args.self.now) c.args.entry.now c.requires.admitted

pub write_domain-requires-clause-doc : goal.write_domain-requires-clause-doc
write_domain-requires-clause-doc c = domain_fits (tree_shown c.args.self.now) c.args.entry.now c.in-Domain.doc c.in-Domain.domain c.in-Domain.is c.requires.admitted

pub write_domain-requires-clause-room : goal.write_domain-requires-clause-room
write_domain-requires-clause-room c = room (tree_shown c.args.self.now) c.args.entry.now c.requires.admitted

pub write_opener-requires-clause-nav : goal.write_opener-requires-clause-nav
write_opener-requires-clause-nav c = (opener_fits (tree_shown c.args.self.now) c.args.entry.now c.in-Opener.nav c.in-Opener.to c.in-Opener.is c.requires.admitted).0

pub write_opener-requires-clause-to : goal.write_opener-requires-clause-to
write_opener-requires-clause-to c = (opener_fits (tree_shown c.args.self.now) c.args.entry.now c.in-Opener.nav c.in-Opener.to c.in-Opener.is c.requires.admitted).1

pub write_opener-requires-clause-room : goal.write_opener-requires-clause-room
write_opener-requires-clause-room c = room (tree_shown c.args.self.now) c.args.entry.now c.requires.admitted

pub write_closing-requires-clause-nav : goal.write_closing-requires-clause-nav
write_closing-requires-clause-nav c = closing_fits (tree_shown c.args.self.now) c.args.entry.now c.in-Closing.nav c.in-Closing.is c.requires.admitted

pub write_closing-requires-clause-room : goal.write_closing-requires-clause-room
write_closing-requires-clause-room c = room (tree_shown c.args.self.now) c.args.entry.now c.requires.admitted

pub write_gone-requires-clause-nav : goal.write_gone-requires-clause-nav
write_gone-requires-clause-nav c = gone_fits (tree_shown c.args.self.now) c.args.entry.now c.in-Gone.nav c.in-Gone.is c.requires.admitted

pub write_gone-requires-clause-room : goal.write_gone-requires-clause-room
write_gone-requires-clause-room c = room (tree_shown c.args.self.now) c.args.entry.now c.requires.admitted

pub write_nothing-requires : goal.write_nothing-requires
write_nothing-requires c = record { room = room (tree_shown c.args.self.now) c.args.entry.now c.requires.admitted }

pub write_nothing-requires-in-Fire : goal.write_nothing-requires-in-Fire
write_nothing-requires-in-Fire c = record { room = room (tree_shown c.args.self.now) c.args.entry.now c.requires.admitted }

pub write_nothing-requires-in-Lapse : goal.write_nothing-requires-in-Lapse
write_nothing-requires-in-Lapse c = record { room = room (tree_shown c.args.self.now) c.args.entry.now c.requires.admitted }

pub write_nothing-requires-in-Lost : goal.write_nothing-requires-in-Lost
write_nothing-requires-in-Lost c = record { room = room (tree_shown c.args.self.now) c.args.entry.now c.requires.admitted }

pub write_nothing-requires-in-Sync : goal.write_nothing-requires-in-Sync
write_nothing-requires-in-Sync c = record { room = room (tree_shown c.args.self.now) c.args.entry.now c.requires.admitted }

pub write_nothing-requires-in-Hidden : goal.write_nothing-requires-in-Hidden
write_nothing-requires-in-Hidden c = record { room = room (tree_shown c.args.self.now) c.args.entry.now c.requires.admitted }

pub returns-in-Drop-clause-ok : goal.returns-in-Drop-clause-ok
returns-in-Drop-clause-ok c = kind_is (known c.args.self.now) (known c.write_drop.new.self) c.args.entry.now (Drop c.in-Drop.nav) c.in-Drop.is
    (of_rows c.write_drop.new.self _ _ _ _ c.write_drop.ensures.navs c.write_drop.ensures.docs c.write_drop.ensures.groups c.write_drop.ensures.len ∙ after_drop c.args.self.now.navs.items c.args.self.now.docs.items c.args.self.now.groups c.args.self.now.len c.args.entry.now.by c.args.entry.now.actor c.in-Drop.nav (drop_fits (tree_shown c.args.self.now) c.args.entry.now c.in-Drop.nav c.in-Drop.is c.requires.admitted))

pub returns-in-Closing-clause-ok : goal.returns-in-Closing-clause-ok
returns-in-Closing-clause-ok c = kind_is (known c.args.self.now) (known c.write_closing.new.self) c.args.entry.now (Closing c.in-Closing.nav) c.in-Closing.is
    (of_rows c.write_closing.new.self _ _ _ _ c.write_closing.ensures.navs c.write_closing.ensures.docs c.write_closing.ensures.groups c.write_closing.ensures.len ∙ after_closing c.args.self.now.navs.items c.args.self.now.docs.items c.args.self.now.groups c.args.self.now.len c.args.entry.now.by c.args.entry.now.actor c.in-Closing.nav (closing_fits (tree_shown c.args.self.now) c.args.entry.now c.in-Closing.nav c.in-Closing.is c.requires.admitted))

pub returns-in-Gone-clause-ok : goal.returns-in-Gone-clause-ok
returns-in-Gone-clause-ok c = kind_is (known c.args.self.now) (known c.write_gone.new.self) c.args.entry.now (Gone c.in-Gone.nav) c.in-Gone.is
    (of_rows c.write_gone.new.self _ _ _ _ c.write_gone.ensures.navs c.write_gone.ensures.docs c.write_gone.ensures.groups c.write_gone.ensures.len ∙ after_gone c.args.self.now.navs.items c.args.self.now.docs.items c.args.self.now.groups c.args.self.now.len c.args.entry.now.by c.args.entry.now.actor c.in-Gone.nav (gone_fits (tree_shown c.args.self.now) c.args.entry.now c.in-Gone.nav c.in-Gone.is c.requires.admitted))

pub returns-in-Opener-clause-ok : goal.returns-in-Opener-clause-ok
returns-in-Opener-clause-ok c = kind_is (known c.args.self.now) (known c.write_opener.new.self) c.args.entry.now (Opener c.in-Opener.nav c.in-Opener.to) c.in-Opener.is
    (of_rows c.write_opener.new.self _ _ _ _ c.write_opener.ensures.navs c.write_opener.ensures.docs c.write_opener.ensures.groups c.write_opener.ensures.len ∙ after_opener c.args.self.now.navs.items c.args.self.now.docs.items c.args.self.now.groups c.args.self.now.len c.args.entry.now.by c.args.entry.now.actor c.in-Opener.nav c.in-Opener.to (opener_fits (tree_shown c.args.self.now) c.args.entry.now c.in-Opener.nav c.in-Opener.to c.in-Opener.is c.requires.admitted).0)

pub returns-in-Commit-clause-ok : goal.returns-in-Commit-clause-ok
returns-in-Commit-clause-ok c = kind_is (known c.args.self.now) (known c.write_commit.new.self) c.args.entry.now (Commit c.in-Commit.nav c.in-Commit.doc c.in-Commit.begin) c.in-Commit.is
    (of_rows c.write_commit.new.self _ _ _ _ c.write_commit.ensures.navs c.write_commit.ensures.docs c.write_commit.ensures.groups c.write_commit.ensures.len ∙ after_commit c.args.self.now.navs.items c.args.self.now.docs.items c.args.self.now.groups c.args.self.now.len c.args.entry.now.by c.args.entry.now.actor c.in-Commit.nav c.in-Commit.doc c.in-Commit.begin (commit_fits (tree_shown c.args.self.now) c.args.entry.now c.in-Commit.nav c.in-Commit.doc c.in-Commit.begin c.in-Commit.is c.requires.admitted).0 (commit_fits (tree_shown c.args.self.now) c.args.entry.now c.in-Commit.nav c.in-Commit.doc c.in-Commit.begin c.in-Commit.is c.requires.admitted).1)

pub returns-in-Post-clause-ok : goal.returns-in-Post-clause-ok
returns-in-Post-clause-ok c = kind_is (known c.args.self.now) (known c.write_nothing.new.self) c.args.entry.now (Post c.in-Post.to c.in-Post.from c.in-Post.origin c.in-Post.target c.in-Post.body) c.in-Post.is
    (of_rows c.write_nothing.new.self _ _ _ _ c.write_nothing.ensures.navs c.write_nothing.ensures.docs c.write_nothing.ensures.groups c.write_nothing.ensures.len ∙ after_post c.args.self.now.navs.items c.args.self.now.docs.items c.args.self.now.groups c.args.self.now.len c.args.entry.now.by c.args.entry.now.actor c.in-Post.to c.in-Post.from c.in-Post.origin c.in-Post.target c.in-Post.body)

pub returns-in-Fire-clause-ok : goal.returns-in-Fire-clause-ok
returns-in-Fire-clause-ok c = kind_is (known c.args.self.now) (known c.write_nothing-in-Fire.new.self) c.args.entry.now (Fire c.in-Fire.doc c.in-Fire.post) c.in-Fire.is
    (of_rows c.write_nothing-in-Fire.new.self _ _ _ _ c.write_nothing-in-Fire.ensures.navs c.write_nothing-in-Fire.ensures.docs c.write_nothing-in-Fire.ensures.groups c.write_nothing-in-Fire.ensures.len ∙ after_fire c.args.self.now.navs.items c.args.self.now.docs.items c.args.self.now.groups c.args.self.now.len c.args.entry.now.by c.args.entry.now.actor c.in-Fire.doc c.in-Fire.post)

pub returns-in-Lapse-clause-ok : goal.returns-in-Lapse-clause-ok
returns-in-Lapse-clause-ok c = kind_is (known c.args.self.now) (known c.write_nothing-in-Lapse.new.self) c.args.entry.now (Lapse c.in-Lapse.doc c.in-Lapse.post c.in-Lapse.cause) c.in-Lapse.is
    (of_rows c.write_nothing-in-Lapse.new.self _ _ _ _ c.write_nothing-in-Lapse.ensures.navs c.write_nothing-in-Lapse.ensures.docs c.write_nothing-in-Lapse.ensures.groups c.write_nothing-in-Lapse.ensures.len ∙ after_lapse c.args.self.now.navs.items c.args.self.now.docs.items c.args.self.now.groups c.args.self.now.len c.args.entry.now.by c.args.entry.now.actor c.in-Lapse.doc c.in-Lapse.post c.in-Lapse.cause)

pub returns-in-Lost-clause-ok : goal.returns-in-Lost-clause-ok
returns-in-Lost-clause-ok c = kind_is (known c.args.self.now) (known c.write_nothing-in-Lost.new.self) c.args.entry.now (Lost c.in-Lost.renderer) c.in-Lost.is
    (of_rows c.write_nothing-in-Lost.new.self _ _ _ _ c.write_nothing-in-Lost.ensures.navs c.write_nothing-in-Lost.ensures.docs c.write_nothing-in-Lost.ensures.groups c.write_nothing-in-Lost.ensures.len ∙ after_lost c.args.self.now.navs.items c.args.self.now.docs.items c.args.self.now.groups c.args.self.now.len c.args.entry.now.by c.args.entry.now.actor c.in-Lost.renderer)

pub returns-in-Sync-clause-ok : goal.returns-in-Sync-clause-ok
returns-in-Sync-clause-ok c = kind_is (known c.args.self.now) (known c.write_nothing-in-Sync.new.self) c.args.entry.now (Sync) c.in-Sync.is
    (of_rows c.write_nothing-in-Sync.new.self _ _ _ _ c.write_nothing-in-Sync.ensures.navs c.write_nothing-in-Sync.ensures.docs c.write_nothing-in-Sync.ensures.groups c.write_nothing-in-Sync.ensures.len ∙ after_sync c.args.self.now.navs.items c.args.self.now.docs.items c.args.self.now.groups c.args.self.now.len c.args.entry.now.by c.args.entry.now.actor)

pub returns-in-Hidden-clause-ok : goal.returns-in-Hidden-clause-ok
returns-in-Hidden-clause-ok c = kind_is (known c.args.self.now) (known c.write_nothing-in-Hidden.new.self) c.args.entry.now (Hidden) c.in-Hidden.is
    (of_rows c.write_nothing-in-Hidden.new.self _ _ _ _ c.write_nothing-in-Hidden.ensures.navs c.write_nothing-in-Hidden.ensures.docs c.write_nothing-in-Hidden.ensures.groups c.write_nothing-in-Hidden.ensures.len ∙ after_hidden c.args.self.now.navs.items c.args.self.now.docs.items c.args.self.now.groups c.args.self.now.len c.args.entry.now.by c.args.entry.now.actor)

pub returns-in_ok-clone-in-Name-clause-ok : goal.returns-in_ok-clone-in-Name-clause-ok
returns-in_ok-clone-in-Name-clause-ok c = kind_is (known c.args.self.now) (known c.write_name.new.self) c.args.entry.now (Name c.in-Name.nav c.in-Name.name) c.in-Name.is
    (of_rows c.write_name.new.self _ _ _ _ (c.write_name.ensures.navs ∙ ap (λ name. set c.args.self.now.navs.items c.in-Name.nav (record (get_or c.args.self.now.navs.items c.in-Name.nav no_nav) { name = name })) c.in_ok-clone-in-Name.ensures.cases) c.write_name.ensures.docs c.write_name.ensures.groups c.write_name.ensures.len ∙ after_name c.args.self.now.navs.items c.args.self.now.docs.items c.args.self.now.groups c.args.self.now.len c.args.entry.now.by c.args.entry.now.actor c.in-Name.nav c.in-Name.name (name_fits (tree_shown c.args.self.now) c.args.entry.now c.in-Name.nav c.in-Name.name c.in-Name.is c.requires.admitted))

pub returns-in_ok-clone-in-Fragment-clause-ok : goal.returns-in_ok-clone-in-Fragment-clause-ok
returns-in_ok-clone-in-Fragment-clause-ok c = kind_is (known c.args.self.now) (known c.write_url.new.self) c.args.entry.now (Fragment c.in-Fragment.nav c.in-Fragment.doc c.in-Fragment.url) c.in-Fragment.is
    (of_rows c.write_url.new.self _ _ _ _ c.write_url.ensures.navs (c.write_url.ensures.docs ∙ ap (λ url. set c.args.self.now.docs.items c.in-Fragment.doc (record (get_or c.args.self.now.docs.items c.in-Fragment.doc no_doc) { url = url })) c.in_ok-clone-in-Fragment.ensures.cases) c.write_url.ensures.groups c.write_url.ensures.len ∙ after_fragment c.args.self.now.navs.items c.args.self.now.docs.items c.args.self.now.groups c.args.self.now.len c.args.entry.now.by c.args.entry.now.actor c.in-Fragment.nav c.in-Fragment.doc c.in-Fragment.url (fragment_fits (tree_shown c.args.self.now) c.args.entry.now c.in-Fragment.nav c.in-Fragment.doc c.in-Fragment.url c.in-Fragment.is c.requires.admitted))

pub returns-in_ok-clone-in-Domain-clause-ok : goal.returns-in_ok-clone-in-Domain-clause-ok
returns-in_ok-clone-in-Domain-clause-ok c = kind_is (known c.args.self.now) (known c.write_domain.new.self) c.args.entry.now (Domain c.in-Domain.doc c.in-Domain.domain) c.in-Domain.is
    (of_rows c.write_domain.new.self _ _ _ _ c.write_domain.ensures.navs (c.write_domain.ensures.docs ∙ ap (λ domain. set c.args.self.now.docs.items c.in-Domain.doc (record (get_or c.args.self.now.docs.items c.in-Domain.doc no_doc) { domain = Some domain })) c.in_ok-clone-in-Domain.ensures.cases) c.write_domain.ensures.groups c.write_domain.ensures.len ∙ after_domain c.args.self.now.navs.items c.args.self.now.docs.items c.args.self.now.groups c.args.self.now.len c.args.entry.now.by c.args.entry.now.actor c.in-Domain.doc c.in-Domain.domain (domain_fits (tree_shown c.args.self.now) c.args.entry.now c.in-Domain.doc c.in-Domain.domain c.in-Domain.is c.requires.admitted))

pub returns-in_ok-write_begin-in-Begin-clause-ok : goal.returns-in_ok-write_begin-in-Begin-clause-ok
returns-in_ok-write_begin-in-Begin-clause-ok c = kind_is (known c.args.self.now) (known c.write_begin.new.self) c.args.entry.now (Begin c.in-Begin.nav c.in-Begin.load) c.in-Begin.is
    (of_rows c.write_begin.new.self _ _ _ _ c.in_ok-write_begin-in-Begin.ensures.navs (c.in_ok-write_begin-in-Begin.ensures.docs ∙ ap (λ (row : DocRow). c.args.self.now.docs.items ++ row ∷ []) c.in_ok-load_row-in-Begin.ensures) c.in_ok-write_begin-in-Begin.ensures.groups c.in_ok-write_begin-in-Begin.ensures.len
    ∙ after_begin c.args.self.now.navs.items c.args.self.now.docs.items c.args.self.now.groups c.args.self.now.len c.args.entry.now.by c.args.entry.now.actor c.in-Begin.nav c.in-Begin.load (begin_fits (tree_shown c.args.self.now) c.args.entry.now c.in-Begin.nav c.in-Begin.load c.in-Begin.is c.requires.admitted).0 (begin_fits (tree_shown c.args.self.now) c.args.entry.now c.in-Begin.nav c.in-Begin.load c.in-Begin.is c.requires.admitted).1)
