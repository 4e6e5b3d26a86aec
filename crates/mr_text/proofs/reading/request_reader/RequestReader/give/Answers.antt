use Rattle.std.proofs.Common.{rules, ◌≡◌, ◌+◌, [], true, false, drop, sym, ◌∙◌, ap}
use Rattle.mr_text.specs.Requests.{is_quit}
use Rattle.mr_text.specs.steps.StreamView.{StreamView, reader_of}
use Rattle.mr_text.proofs.NextRequests.{given_is, not_quit}
use Rattle.mr_text.proofs.reading.request_reader.RequestReader.give.Goals as goal

pub returns-in-Quit-clause-reader : goal.returns-in-Quit-clause-reader
returns-in-Quit-clause-reader c =
    let last : is_quit c.args.request ≡ true = ap is_quit c.in-Quit.is in
    let closed : c.close.new.self ≡ record { front = []; unread = drop c.args.size c.self.inside.stream.unread; ended = c.self.inside.stream.ended; closed = true } =
    c.close.ensures ∙ ap (λ (s : StreamView). record s { closed = true }) c.give.ensures in
    ap reader_of closed ∙ given_is c.args.self.now c.self.inside.stream c.args.size true c.self.view_is
    ∙ ap (λ b. record { kept = drop (c.args.self.now.begun + c.args.size) c.args.self.now.kept; begun = 0; ended = c.args.self.now.ended; closed = b }) (sym last)

pub returns-in_default : goal.returns-in_default
returns-in_default c = record {
  request = search rules;
  reader =
      let other : is_quit c.args.request ≡ false = not_quit c.args.request c.in_default.not-Quit in
      let still : c.self.inside.stream.closed ≡ false = ap (λ v. v.closed) c.self.view_is ∙ c.requires.going_on in
      let open_still : is_quit c.args.request ≡ c.self.inside.stream.closed = other ∙ sym still in
      ap reader_of c.give.ensures ∙ given_is c.args.self.now c.self.inside.stream c.args.size c.self.inside.stream.closed c.self.view_is
      ∙ ap (λ b. record { kept = drop (c.args.self.now.begun + c.args.size) c.args.self.now.kept; begun = 0; ended = c.args.self.now.ended; closed = b }) (sym open_still);
}
