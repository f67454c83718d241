-- `about:blank` has no origin of its own.
use Rattle.std.proofs.Common.{◌≡◌, codes, refl}
use Rattle.url.proofs.OnLiterals.{url_on_literals}
use Rattle.origin_core.specs.Origin.{page_origin}
use Rattle.object_access.specs.LocationAccess.{text_of_origin}

pub blank_origin : text_of_origin (page_origin (codes "about:blank")) ≡ codes "null"
unfolding url_on_literals
blank_origin = refl
