-- The tokens of events.
use Rattle.std.specs.Prelude.{ℕ, ◌-◌, nat_eq, nat_le, if◌then◌else◌}
use Rattle.mr_driver.specs.declared.tokens.Origin.{Origin}

-- the mail's token is 0, those of the links are the next ones, and the others are those of the clients
abbrev pub origin_of : ℕ → ℕ → Origin
origin_of links token =
    if nat_eq token 0 then Origin.Mail
    else if nat_le token links then Origin.Link (token - 1)
    else Origin.Client (token - 1 - links)
