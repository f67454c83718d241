-- What a coordinator's outcome names is there on what the renderer is told once the entries joined.
use Rattle.std.proofs.Common.{◌≡◌, ℕ, ◌+◌, ◌<◌, ◌≤◌, ◌^◌, List, [], ◌∷◌, ◌++◌, length, map, Option, Some, None, Bool, true, false, refl, sym, ap, subst, ◌∙◌, arith, if◌then◌else◌}
use Rattle.std.specs.Prelude.{nat_lt}
use Rattle.std.specs.Char.{to_ascii_lowercase}
use Rattle.std.proofs.lemmas.Bool.Decides.{nat_tests}
use Rattle.agent_laws.specs.Actors.{has_no_asker}
use Rattle.agent_laws.specs.Wellness.{IsWell}
use Rattle.agent_laws.proofs.Groups.Choices.{IsChoiceBelow, choice_below}
use Rattle.agent_laws.proofs.Groups.Well.{admitted_well}
use Rattle.agent_laws.proofs.Logs.Exchanges.{at_home}
use Rattle.agent_terms.specs.declared.request.Request.{Request}
use Rattle.agent_terms.specs.declared.request.Request.TheVariants as ask
use Rattle.agent_terms.specs.declared.request.ReplyOutcome.TheVariants as reply
use Rattle.coordinator_rules.specs.Decision.{Rules, Decision, asker_of, asking, by, decide, domain_decision, domain_set, effective_domain, end_of, frame_entry, home_if_active, is_address, is_in_fragment, is_live, made_or_null, navigation, new_window, one, open_chosen, opener_entry, or_sync, task_decision}
use Rattle.coordinator_rules.specs.Navigation.{Choice, Existing, New, Nothing, choice, flags_in, may_navigate}
use Rattle.coordinator_rules.specs.NextTask.{next_task}
use Rattle.coordinator_rules.specs.Told.{told_log}
use Rattle.desk.specs.Refusals.{refused_with}
use Rattle.desk.specs.Serving.{decided, full}
use Rattle.desk.proofs.Deciding.{decided_more, decided_not_yours}
use Rattle.link_wire.specs.Links.{names_what_is_there}
use Rattle.origin_core.specs.Flags.{has_domain, union}
use Rattle.origin_core.specs.Site.{fits}
use Rattle.tree_log.specs.declared.entry.Entry.{Entry}
use Rattle.tree_log.specs.declared.entry.What.{What}
use Rattle.tree_log.specs.declared.entry.What.TheVariants as what
use Rattle.tree_log.specs.Admits.{AreAdmitted}
use Rattle.tree_log.specs.Facts.{navs_after}
use Rattle.tree_log.specs.Tree.{Tree, tree_of, domain_of, is, nav_of, origin_of, same_domain}
use Rattle.tree_log.specs.Urls.{url_of}
use Rattle.link_port.proofs.Answering.{asked_cases, if_so, next_cases, twice_so}
use Rattle.link_port.proofs.Naming.{navs_more, task_named}
use Rattle.link_port.proofs.Told.{told_tree}

navs_all : (es log : List Entry) → (tree_of log).navs ≤ (tree_of (es ++ log)).navs
navs_all [] log = omega arith
navs_all (e ∷ es) log = let rest = navs_all es log in let more = navs_more e (es ++ log) in omega arith

navs_at : (e : Entry) (log : List Entry) → (tree_of (e ∷ log)).navs ≡ navs_after e.what (tree_of log).navs
unfolding tree_of
navs_at e log = refl

lt_true : (a b : ℕ) → a < b → nat_lt a b ≡ true
lt_true a b lt = grind (arith, nat_tests)

module _ (r told : ℕ) (log : List Entry) where
  Names : Decision → Type 0
  Names d = names_what_is_there r (told_log r (d.entries ++ log)) told d.outcome ≡ true

  made_names : (es : List Entry) (n : ℕ) → n < (tree_of (es ++ log)).navs → Names (record { entries = es; outcome = reply.Made n })
  unfolding Names
  made_names es n lt = ap (λ (t : Tree). nat_lt n t.navs) (told_tree r (es ++ log)) ∙ lt_true n (tree_of (es ++ log)).navs lt

  made_or_none : (noopener : Bool) (es : List Entry) (n : ℕ) → n < (tree_of (es ++ log)).navs → Names (record { entries = es; outcome = made_or_null noopener n })
  unfolding Names
  made_or_none true es n lt = refl
  made_or_none false es n lt = made_names es n lt

  found_or_none : (noopener : Bool) (es : List Entry) (n : ℕ) → n < (tree_of log).navs → Names (record { entries = es; outcome = made_or_null noopener n })
  found_or_none noopener es n lt = made_or_none noopener es n (let le = navs_all es log in omega arith)

  done_names : (asker : ℕ) (w : What) → Names (one r asker w reply.Done)
  unfolding Names
  done_names asker w = refl

  forbidden_names : (asker : ℕ) (w : What) (rule : ℕ) → Names (one r asker w (reply.Security rule))
  unfolding Names
  forbidden_names asker w rule = refl

  null_names : (asker : ℕ) (w : What) → Names (one r asker w reply.Null)
  unfolding Names
  null_names asker w = refl

  ended_names : (place : ℕ) → Names (refused_with (reply.Unloaded place))
  unfolding Names
  ended_names place = refl

  full_names : Names (full log)
  unfolding Names
  full_names = refl

  foreign_names : (doc : ℕ) (home : Option ℕ) → Names (refused_with (reply.NotYours doc home))
  unfolding Names
  foreign_names doc home = refl

  rest_names : Names (refused_with reply.Done)
  unfolding Names
  rest_names = refl

  none_names : Names (refused_with reply.Nothing)
  unfolding Names
  none_names = refl

  new_there : (asker n : ℕ) (w : What) → navs_after w (tree_of log).navs ≡ (tree_of log).navs + 1 → n ≡ (tree_of log).navs → n < (tree_of (by r asker w ∷ log)).navs
  new_there asker n w more is = let now = navs_at (by r asker w) log in omega arith

  open_names : (rules : Rules) (f : ℕ → List ℕ → Bool) (asker : ℕ) (url : Option (List ℕ)) (name : List ℕ) (noopener user : Bool) (c : Choice) → IsChoiceBelow (tree_of log).navs c
      → Names (open_chosen (asking rules (tree_of log) r asker noopener user) f url name c)
  open_names rules f asker url name noopener user Nothing h = null_names asker what.Sync
  open_names rules f asker url name noopener user New h =
      made_or_none noopener (by r asker (new_window rules (tree_of log) asker name noopener url) ∷ []) (tree_of log).navs
      (new_there asker (tree_of log).navs (new_window rules (tree_of log) asker name noopener url) refl refl)
  open_names rules f asker None name noopener user (Existing n) h = found_or_none noopener (or_sync r asker (opener_entry (tree_of log) r asker noopener n)) n h
  open_names rules f asker (Some url) name noopener user (Existing n) h =
      if_so Names (may_navigate (tree_of log) (nav_of (tree_of log) asker) n user)
      (record { entries = opener_entry (tree_of log) r asker noopener n ++ by r asker (navigation rules (tree_of log) (f n url) asker n url) ∷ []; outcome = made_or_null noopener n }) (one r asker what.Sync (reply.Security 7))
      (found_or_none noopener (opener_entry (tree_of log) r asker noopener n ++ by r asker (navigation rules (tree_of log) (f n url) asker n url) ∷ []) n h) (forbidden_names asker what.Sync 7)

  set_names : (rules : Rules) (asker : ℕ) (value : List ℕ) (o : Option (List ℕ)) → Names (domain_set rules (tree_of log) r asker value o)
  set_names rules asker value None = forbidden_names asker what.Sync 10
  set_names rules asker value (Some effective) =
      if_so Names (fits value effective (is_address (origin_of (tree_of log) asker)) rules.suffixes) (one r asker (what.Domain asker value) reply.Done) (one r asker what.Sync (reply.Security 11))
      (done_names asker (what.Domain asker value)) (forbidden_names asker what.Sync 11)

  domain_names : (rules : Rules) (asker : ℕ) (value : List ℕ) → Names (domain_decision rules (tree_of log) r asker value)
  domain_names rules asker value =
      let t : Tree = tree_of log in
      let o = effective_domain (origin_of t asker) (domain_of t asker) in
      if_so Names (has_domain (flags_in t (nav_of t asker))) (one r asker what.Sync (reply.Security 9)) (domain_set rules t r asker value o) (forbidden_names asker what.Sync 9) (set_names rules asker value o)

  live_names : (asker : ℕ) (a b : Bool) (w : What) (rule : ℕ) → Names (if a then if b then one r asker w reply.Done else one r asker what.Sync (reply.Security rule) else one r asker what.Sync reply.Done)
  live_names asker a b w rule =
      twice_so Names a b (one r asker w reply.Done) (one r asker what.Sync (reply.Security rule)) (one r asker what.Sync reply.Done) (done_names asker w) (forbidden_names asker what.Sync rule) (done_names asker what.Sync)

  decide_names : (rules : Rules) (f : ℕ → List ℕ → Bool) (q : Request) → IsWell (tree_of log) → asker_of q < (tree_of log).docs → Names (decide rules (tree_of log) f r q)
  unfolding decide
  decide_names rules f ask.Next well there = none_names
  decide_names rules f ask.More well there = rest_names
  decide_names rules f (ask.Sync asker) well there = done_names asker what.Sync
  decide_names rules f (ask.Frame asker name flags url) well there =
      let t : Tree = tree_of log in
      let w : What = frame_entry rules t asker name (union flags (flags_in t (nav_of t asker))) url in
      made_names (by r asker w ∷ []) t.navs (new_there asker t.navs w refl refl)
  decide_names rules f (ask.Drop asker nav) well there = done_names asker _
  decide_names rules f (ask.Open asker url name noopener user) well there =
      let t : Tree = tree_of log in
      open_names rules f asker url name noopener user (choice t (nav_of t asker) name noopener user) (choice_below t well (nav_of t asker) name noopener user (well.below asker there))
  decide_names rules f (ask.Link asker url name noopener user) well there = done_names asker _
  decide_names rules f (ask.Go asker doc url user) well there =
      let t : Tree = tree_of log in
      live_names asker (is_live t asker doc) (may_navigate t (nav_of t asker) (nav_of t doc) user) (navigation rules t (f (nav_of t doc) url) asker (nav_of t doc) url) 7
  decide_names rules f (ask.Name asker doc name) well there = let t : Tree = tree_of log in live_names asker (is_live t asker doc) (same_domain t asker doc) (what.Name (nav_of t doc) name) 8
  decide_names rules f (ask.Disown asker doc) well there = let t : Tree = tree_of log in live_names asker (is_live t asker doc) (same_domain t asker doc) (what.Opener (nav_of t doc) None) 8
  decide_names rules f (ask.Close asker doc user) well there = done_names asker _
  decide_names rules f (ask.Post asker doc target body) well there = done_names asker _
  decide_names rules f (ask.Domain asker value) well there = domain_names rules asker (map to_ascii_lowercase value)

  module _ (all : AreAdmitted log) (short : length log < 2 ^ 30) (le : told ≤ length log) where
    task_names : (o : Option What) → next_task log r ≡ o → Names (task_decision r (length log) o)
    unfolding Names
    task_names None e = refl
    task_names (Some w) e = task_named r log told w all short le e

    asked_names : (rules : Rules) (q : Request) → has_no_asker q ≡ false → Names (decided rules log r q)
    asked_names rules q asks = by_home (is (home_if_active (tree_of log) (asker_of q)) r) refl
      where
        by_home : (b : Bool) → is (home_if_active (tree_of log) (asker_of q)) r ≡ b → Names (decided rules log r q)
        by_home true home =
            let there = (admitted_well log all).shown (asker_of q) (at_home (tree_of log) (asker_of q) r home).0 in
            asked_cases Names rules log r q asks home (ended_names (end_of log (asker_of q))) full_names
            (λ a. decide_names rules (is_in_fragment (tree_of log) (url_of log)) q (admitted_well log all) there)
        by_home false home = subst Names (sym (decided_not_yours rules log r q asks home)) (foreign_names (asker_of q) (home_if_active (tree_of log) (asker_of q)))

    any_names : (rules : Rules) (q : Request) → Names (decided rules log r q)
    unfolding has_no_asker
    any_names rules ask.Next = next_cases Names rules log r full_names (task_names (next_task log r) refl)
    any_names rules ask.More = subst Names (sym (decided_more rules log r)) rest_names
    any_names rules q = asked_names rules q refl

    -- what a decision's outcome names is there
    pub decided_names : (rules : Rules) (q : Request) → names_what_is_there r (told_log r ((decided rules log r q).entries ++ log)) told (decided rules log r q).outcome ≡ true
    unfolding Names
    decided_names rules q = any_names rules q
