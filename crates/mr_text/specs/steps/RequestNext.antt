-- What a reader of requests answers and leaves, in one.
use Rattle.std.specs.Prelude.{◌≡◌, List, ℕ, Option, None, Result, Ok}
use Rattle.mr_text.specs.Requests.{SpellsRequest, RefusesRequest, SkipsLine, BegunAfter, is_quit}
use Rattle.mr_text.specs.Stream.{ReaderView, StandsFor, HoldsFew, NextIs}
use Rattle.mr_text.specs.declared.error.TextError.{TextError}
use Rattle.mr_text.specs.declared.request.Request.{Request}

pub record IsNextRequest (old new : ReaderView) (result : Result (Option Request) TextError) : Type 0 where
  pub answer : (rest : List ℕ) → StandsFor old rest
      → NextIs SpellsRequest RefusesRequest SkipsLine is_quit old new rest result
  pub begun : BegunAfter old new result
  pub short : result ≡ Ok None → HoldsFew new
