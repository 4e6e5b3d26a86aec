-- Lemmas on what is given of an answer.
use Rattle.std.proofs.Common.{List, ℕ, Result, Ok, Err, IfErr, inr}
use Rattle.mr_text.specs.Sink.{SinkView}
use Rattle.mr_text.specs.Source.{SourceView}
use Rattle.mr_http.specs.Fetch.{IsAsked, IsNotFetched}
use Rattle.mr_http.specs.Pieces.{IsRead}
use Rattle.mr_http.specs.Received.{HasNoneFor}
use Rattle.mr_http.specs.declared.error.FetchFault.{FetchFault}
use Rattle.mr_http.specs.declared.error.FetchFault.TheVariants.{WriteFault, ReadFault, TooLarge, NoResponse, OutOfMemory}
use Rattle.mr_http.specs.declared.pieces.Until.TheVariants.{EndOfInput}

-- a response was read whose body isn't given
pub not_given : (request response : List ℕ) (fault : FetchFault) (input : SourceView) (output : SinkView) (input' : SourceView) (output' : SinkView)
    → IsAsked request output output' → IsRead EndOfInput response input input' → HasNoneFor response fault
    → IsNotFetched request fault input output input' output'
not_given request response WriteFault input output input' output' asked read none = absurd none
not_given request response ReadFault input output input' output' asked read none = absurd none
not_given request response TooLarge input output input' output' asked read none = absurd none
not_given request response NoResponse input output input' output' asked read none = (asked, (response, read, none))
not_given request response OutOfMemory input output input' output' asked read body = inr (asked, read.steady)

pub not_fetched : {A : Type 0} (request response : List ℕ) (result : Result A FetchFault) (input : SourceView) (output : SinkView) (input' : SourceView) (output' : SinkView)
    → IsAsked request output output' → IsRead EndOfInput response input input' → IfErr result (λ fault. HasNoneFor response fault)
    → IfErr result (λ fault. IsNotFetched request fault input output input' output')
not_fetched request response (Ok body) input output input' output' asked read none = tt
not_fetched request response (Err fault) input output input' output' asked read none =
    not_given request response fault input output input' output' asked read none
