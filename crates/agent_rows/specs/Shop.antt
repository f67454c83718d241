-- A whole log: a shop with a frame of who takes the money, one with an advertisement, and a window where one signs in.
use Rattle.std.specs.Prelude.{ℕ, List, [], ◌∷◌, Some, None, codes}
use Rattle.origin_core.specs.declared.origin.Origin.{Origin}
use Rattle.origin_core.specs.declared.origin.Origin.TheVariants.{Opaque}
use Rattle.plain_data.specs.declared.data.Data.{Data}
use Rattle.plain_data.specs.declared.data.Data.TheVariants as data'
use Rattle.tree_log.specs.declared.entry.Entry.{Entry}
use Rattle.tree_log.specs.declared.entry.Target.TheVariants as targets
use Rattle.tree_log.specs.declared.entry.What.TheVariants as what
use Rattle.agent_terms.specs.declared.session.Page.{Page}
use Rattle.agent_terms.specs.declared.session.Session.{Session}
use Rattle.coordinator_rules.specs.NextTask.{task_entry}
use Rattle.coordinator_rules.specs.Decision.{by}
use Rattle.agent_rows.specs.Logs.{site, load, start}

-- THE SESSION

abbrev pub shop_url : List ℕ
shop_url = codes "https://shop.test/"

abbrev pub pay_url : List ℕ
pay_url = codes "https://pay.test/"

abbrev pub ads_url : List ℕ
ads_url = codes "https://ads.test/"

abbrev pub login_url : List ℕ
login_url = codes "https://login.test/"

abbrev pub shop_test : Origin
shop_test = site (codes "shop.test")

abbrev pub pay_test : Origin
pay_test = site (codes "pay.test")

abbrev pub login_test : Origin
login_test = site (codes "login.test")

-- a legal log may come of any requests, so it doesn't matter here what the pages run
abbrev pub page : List ℕ → Page
page url = record { url = url; script = []; handler = [] }

-- four renderers, and no public suffixes
abbrev pub shop : Session
shop = record {
  renderers = 4;
  suffixes = [];
  start = shop_url ∷ [];
  order = [];
  lose = [];
  pages = page shop_url ∷ page pay_url ∷ page ads_url ∷ page login_url ∷ [];
}

-- THE LOG, a part at a time, the newest entry first

-- the start window n0, which loads the shop's document d1
abbrev pub opened_shop : List Entry
opened_shop = start 0 0 0 (load 1 0 shop_test shop_url) ∷ []

abbrev pub with_shop : List Entry
with_shop = task_entry 0 (what.Commit 0 1 0) ∷ opened_shop

-- d1 makes the frame n1 named pay, which loads d3 at renderer 1
abbrev pub framed_pay : List Entry
framed_pay = by 0 1 (what.Frame 1 2 0 shop_test (codes "pay") 0 (Some (load 3 1 pay_test pay_url))) ∷ with_shop

abbrev pub with_pay : List Entry
with_pay = task_entry 1 (what.Commit 1 3 2) ∷ framed_pay

-- and the frame n2, whose sandbox allows scripts alone, which loads d5 at renderer 2: its documents have origins of their own
abbrev pub framed_ads : List Entry
framed_ads = by 0 1 (what.Frame 2 4 0 (Opaque 4) [] 223 (Some (load 5 2 (Opaque 5) ads_url))) ∷ with_pay

abbrev pub with_ads : List Entry
with_ads = task_entry 2 (what.Commit 2 5 4) ∷ framed_ads

-- and the window n3 named signin, which loads d7 at renderer 3
abbrev pub opened_login : List Entry
opened_login = by 0 1 (what.Open 3 6 0 0 shop_test (codes "signin") (Some 0) 0 None (Some (load 7 3 login_test login_url))) ∷ with_ads

abbrev pub with_login : List Entry
with_login = task_entry 3 (what.Commit 3 7 6) ∷ opened_login

-- d7 posts a token to d1, for the shop's origin alone
abbrev pub token : Data
token = data'.Record ((codes "token", data'.Text (codes "t1")) ∷ [])

abbrev pub posted_token : List Entry
posted_token = by 3 7 (what.Post 1 3 login_test (targets.Origin shop_test) token) ∷ with_login

abbrev pub with_token : List Entry
with_token = task_entry 0 (what.Fire 1 8) ∷ posted_token

-- the advertisement's document d5 would have the window n0 go elsewhere, and is refused
abbrev pub with_refusal : List Entry
with_refusal = by 2 5 what.Sync ∷ with_token

-- d1 asks the window n3 to close, and it closes
abbrev pub closing_login : List Entry
closing_login = by 0 1 (what.Closing 3) ∷ with_refusal

abbrev pub shop_log : List Entry
shop_log = task_entry 3 (what.Gone 3) ∷ closing_login
