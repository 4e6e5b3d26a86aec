-- How a proxy of a fleet ends.
use Rattle.std.proofs.Common.{◌≡◌, ℕ, List, map, Result, sym, subst}
use Rattle.std.specs.Prelude.{Vec}
use Rattle.std.specs.declared.alloc.Global.{Global}
use Rattle.mr_proxy.specs.Answer.{AnswerView}
use Rattle.mr_proxy.specs.ProxyView.{ProxyView}
use Rattle.mr_desks.specs.Closing.{ClosesSo}
use Rattle.mr_desks.specs.declared.book.Book.{Book}
use Rattle.mr_desks.specs.declared.close_error.CloseError.{CloseError}

-- a book that was held against these was held against what is the same
pub closed_beside : {C : Type 0} (book : Result Book (CloseError C)) (opening opening' : ProxyView) (shares shares' : List ℕ)
    (answers answers' : List (Vec AnswerView Global)) → opening' ≡ opening → shares ≡ shares' → answers ≡ answers'
    → ClosesSo opening shares (map (λ (session : Vec AnswerView Global). session.items) answers) book
    → ∥ ClosesSo opening' shares' (map (λ (session : Vec AnswerView Global). session.items) answers') book ∥₁
closed_beside book opening opening' shares shares' answers answers' same_opening same_shares same_answers closed =
    ∣ subst (λ (o : ProxyView). ClosesSo o shares' (map (λ (session : Vec AnswerView Global). session.items) answers') book) (sym same_opening)
    (subst (λ (s : List ℕ). ClosesSo opening s (map (λ (session : Vec AnswerView Global). session.items) answers') book) same_shares
    (subst (λ (a : List (Vec AnswerView Global)). ClosesSo opening shares (map (λ (session : Vec AnswerView Global). session.items) a) book) same_answers
    closed)) ∣₁
