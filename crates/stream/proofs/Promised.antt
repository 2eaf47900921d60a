-- What is written for an input are the replies of the promise over lines.
use Rattle.std.proofs.Common.{◌≡◌, ℕ, ◌+◌, List, [], ◌∷◌, ◌++◌, pos, refl, ap}
use Rattle.std.specs.List.{flat_map}
use Rattle.sessions.specs.Promise.{replies_to}
use Rattle.sessions.specs.Session.{View, new_session, reply, line_after}
use Rattle.sessions.proofs.Promised.{lines_promised}
use Rattle.stream.specs.Promised.{sent_from, lines_sent, InputsPromised}
use Rattle.stream.specs.Replies.{replies_from}

written : (v : View) (number : ℕ) (lines : List (List ℕ))
    → replies_from v number lines ≡ flat_map (λ r. r.written) (replies_to v (sent_from number lines))
written v number [] = refl
written v number (line ∷ lines) =
    ap (λ (t : List ℕ). reply v (pos number) line ++ t) (written (line_after v line) (number + 1) lines)

pub inputs_promised : InputsPromised
inputs_promised bytes = record {
  written = written new_session 1 _;
  promise = lines_promised (lines_sent bytes);
}
