use Rattle.std.proofs.Common.{◌≡◌, sym, ◌∙◌, ap, subst, length, unwrap_or}
use Rattle.mr_lines.specs.Lines.{byte_place}
use Rattle.mr_text.specs.steps.StreamView.{IsScanned}
use Rattle.mr_text.proofs.Scanned.{scanned_to}
use Rattle.mr_text.proofs.reading.stream.Stream.line_end.Goals as goal

pub invariant_of-self : goal.invariant_of-self
invariant_of-self c =
    let there : c.line_end_from-found.result ≡ byte_place 10 c.self.inside.unread = c.line_end_from-found.ensures.place ∙ ap (byte_place 10) c.as_slice.ensures in
    let to : c.unwrap_or-self-inside.result ≡ unwrap_or c.line_end_from-found.result (length c.self.inside.unread) = c.unwrap_or-self-inside.ensures ∙ ap (unwrap_or c.line_end_from-found.result) c.len.ensures in
    subst (IsScanned c.self.inside.unread) (sym to) (scanned_to c.self.inside.unread c.line_end_from-found.result there)
