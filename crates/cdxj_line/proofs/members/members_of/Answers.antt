use Rattle.std.proofs.Common.{◌∙◌, ap, List, ℕ}
use Rattle.std.specs.Prelude.{codes}
use Rattle.std.specs.Fmt.{decimal}
use Rattle.digest32.specs.Base32.{base32}
use Rattle.json.specs.Print.{escape}
use Rattle.cdxj_line.specs.Lines.{file_name}
use Rattle.cdxj_line.specs.steps.Shown.{between, joined}
use Rattle.cdxj_line.proofs.Objects.{object_joined}
use Rattle.cdxj_line.proofs.members.members_of.Goals as goal

pub returns-in_err-digest-clause-found : goal.returns-in_err-digest-clause-found
unfolding joined
returns-in_err-digest-clause-found c = λ line is.
    let all = is ∙ object_joined line in
    absurd (c.in_err-digest.ensures.found (base32 line.digest) (between (codes ",\"filename\":\"") (escape (file_name line.volume)) (between (codes ",\"length\":\"") (escape (decimal line.length)) (between (codes ",\"method\":\"") (escape (line.method)) (between (codes ",\"mime\":\"") (escape (line.mime)) (between (codes ",\"number\":\"") (escape (decimal line.number)) (between (codes ",\"offset\":\"") (escape (decimal line.offset)) (between (codes ",\"status\":\"") (escape (decimal line.status)) (between (codes ",\"url\":\"") (escape (line.url)) (codes "}"))))))))) all)

pub returns-in_err-filename-clause-found : goal.returns-in_err-filename-clause-found
unfolding joined
returns-in_err-filename-clause-found c = λ line is.
    let all = is ∙ object_joined line in
    let at_digest = c.in_ok-digest.ensures.found (base32 line.digest) (between (codes ",\"filename\":\"") (escape (file_name line.volume)) (between (codes ",\"length\":\"") (escape (decimal line.length)) (between (codes ",\"method\":\"") (escape (line.method)) (between (codes ",\"mime\":\"") (escape (line.mime)) (between (codes ",\"number\":\"") (escape (decimal line.number)) (between (codes ",\"offset\":\"") (escape (decimal line.offset)) (between (codes ",\"status\":\"") (escape (decimal line.status)) (between (codes ",\"url\":\"") (escape (line.url)) (codes "}"))))))))) all in
    absurd (c.in_err-filename.ensures.found (file_name line.volume) (between (codes ",\"length\":\"") (escape (decimal line.length)) (between (codes ",\"method\":\"") (escape (line.method)) (between (codes ",\"mime\":\"") (escape (line.mime)) (between (codes ",\"number\":\"") (escape (decimal line.number)) (between (codes ",\"offset\":\"") (escape (decimal line.offset)) (between (codes ",\"status\":\"") (escape (decimal line.status)) (between (codes ",\"url\":\"") (escape (line.url)) (codes "}")))))))) at_digest.1)

pub returns-in_err-length-clause-found : goal.returns-in_err-length-clause-found
unfolding joined
returns-in_err-length-clause-found c = λ line is.
    let all = is ∙ object_joined line in
    let at_digest = c.in_ok-digest.ensures.found (base32 line.digest) (between (codes ",\"filename\":\"") (escape (file_name line.volume)) (between (codes ",\"length\":\"") (escape (decimal line.length)) (between (codes ",\"method\":\"") (escape (line.method)) (between (codes ",\"mime\":\"") (escape (line.mime)) (between (codes ",\"number\":\"") (escape (decimal line.number)) (between (codes ",\"offset\":\"") (escape (decimal line.offset)) (between (codes ",\"status\":\"") (escape (decimal line.status)) (between (codes ",\"url\":\"") (escape (line.url)) (codes "}"))))))))) all in
    let at_filename = c.in_ok-filename.ensures.found (file_name line.volume) (between (codes ",\"length\":\"") (escape (decimal line.length)) (between (codes ",\"method\":\"") (escape (line.method)) (between (codes ",\"mime\":\"") (escape (line.mime)) (between (codes ",\"number\":\"") (escape (decimal line.number)) (between (codes ",\"offset\":\"") (escape (decimal line.offset)) (between (codes ",\"status\":\"") (escape (decimal line.status)) (between (codes ",\"url\":\"") (escape (line.url)) (codes "}")))))))) at_digest.1 in
    absurd (c.in_err-length.ensures.found (decimal line.length) (between (codes ",\"method\":\"") (escape (line.method)) (between (codes ",\"mime\":\"") (escape (line.mime)) (between (codes ",\"number\":\"") (escape (decimal line.number)) (between (codes ",\"offset\":\"") (escape (decimal line.offset)) (between (codes ",\"status\":\"") (escape (decimal line.status)) (between (codes ",\"url\":\"") (escape (line.url)) (codes "}"))))))) at_filename.1)

pub returns-in_err-method-clause-found : goal.returns-in_err-method-clause-found
unfolding joined
returns-in_err-method-clause-found c = λ line is.
    let all = is ∙ object_joined line in
    let at_digest = c.in_ok-digest.ensures.found (base32 line.digest) (between (codes ",\"filename\":\"") (escape (file_name line.volume)) (between (codes ",\"length\":\"") (escape (decimal line.length)) (between (codes ",\"method\":\"") (escape (line.method)) (between (codes ",\"mime\":\"") (escape (line.mime)) (between (codes ",\"number\":\"") (escape (decimal line.number)) (between (codes ",\"offset\":\"") (escape (decimal line.offset)) (between (codes ",\"status\":\"") (escape (decimal line.status)) (between (codes ",\"url\":\"") (escape (line.url)) (codes "}"))))))))) all in
    let at_filename = c.in_ok-filename.ensures.found (file_name line.volume) (between (codes ",\"length\":\"") (escape (decimal line.length)) (between (codes ",\"method\":\"") (escape (line.method)) (between (codes ",\"mime\":\"") (escape (line.mime)) (between (codes ",\"number\":\"") (escape (decimal line.number)) (between (codes ",\"offset\":\"") (escape (decimal line.offset)) (between (codes ",\"status\":\"") (escape (decimal line.status)) (between (codes ",\"url\":\"") (escape (line.url)) (codes "}")))))))) at_digest.1 in
    let at_length = c.in_ok-length.ensures.found (decimal line.length) (between (codes ",\"method\":\"") (escape (line.method)) (between (codes ",\"mime\":\"") (escape (line.mime)) (between (codes ",\"number\":\"") (escape (decimal line.number)) (between (codes ",\"offset\":\"") (escape (decimal line.offset)) (between (codes ",\"status\":\"") (escape (decimal line.status)) (between (codes ",\"url\":\"") (escape (line.url)) (codes "}"))))))) at_filename.1 in
    absurd (c.in_err-method.ensures.found (line.method) (between (codes ",\"mime\":\"") (escape (line.mime)) (between (codes ",\"number\":\"") (escape (decimal line.number)) (between (codes ",\"offset\":\"") (escape (decimal line.offset)) (between (codes ",\"status\":\"") (escape (decimal line.status)) (between (codes ",\"url\":\"") (escape (line.url)) (codes "}")))))) at_length.1)

pub returns-in_err-mime-clause-found : goal.returns-in_err-mime-clause-found
unfolding joined
returns-in_err-mime-clause-found c = λ line is.
    let all = is ∙ object_joined line in
    let at_digest = c.in_ok-digest.ensures.found (base32 line.digest) (between (codes ",\"filename\":\"") (escape (file_name line.volume)) (between (codes ",\"length\":\"") (escape (decimal line.length)) (between (codes ",\"method\":\"") (escape (line.method)) (between (codes ",\"mime\":\"") (escape (line.mime)) (between (codes ",\"number\":\"") (escape (decimal line.number)) (between (codes ",\"offset\":\"") (escape (decimal line.offset)) (between (codes ",\"status\":\"") (escape (decimal line.status)) (between (codes ",\"url\":\"") (escape (line.url)) (codes "}"))))))))) all in
    let at_filename = c.in_ok-filename.ensures.found (file_name line.volume) (between (codes ",\"length\":\"") (escape (decimal line.length)) (between (codes ",\"method\":\"") (escape (line.method)) (between (codes ",\"mime\":\"") (escape (line.mime)) (between (codes ",\"number\":\"") (escape (decimal line.number)) (between (codes ",\"offset\":\"") (escape (decimal line.offset)) (between (codes ",\"status\":\"") (escape (decimal line.status)) (between (codes ",\"url\":\"") (escape (line.url)) (codes "}")))))))) at_digest.1 in
    let at_length = c.in_ok-length.ensures.found (decimal line.length) (between (codes ",\"method\":\"") (escape (line.method)) (between (codes ",\"mime\":\"") (escape (line.mime)) (between (codes ",\"number\":\"") (escape (decimal line.number)) (between (codes ",\"offset\":\"") (escape (decimal line.offset)) (between (codes ",\"status\":\"") (escape (decimal line.status)) (between (codes ",\"url\":\"") (escape (line.url)) (codes "}"))))))) at_filename.1 in
    let at_method = c.in_ok-method.ensures.found (line.method) (between (codes ",\"mime\":\"") (escape (line.mime)) (between (codes ",\"number\":\"") (escape (decimal line.number)) (between (codes ",\"offset\":\"") (escape (decimal line.offset)) (between (codes ",\"status\":\"") (escape (decimal line.status)) (between (codes ",\"url\":\"") (escape (line.url)) (codes "}")))))) at_length.1 in
    absurd (c.in_err-mime.ensures.found (line.mime) (between (codes ",\"number\":\"") (escape (decimal line.number)) (between (codes ",\"offset\":\"") (escape (decimal line.offset)) (between (codes ",\"status\":\"") (escape (decimal line.status)) (between (codes ",\"url\":\"") (escape (line.url)) (codes "}"))))) at_method.1)

pub returns-in_err-number-clause-found : goal.returns-in_err-number-clause-found
unfolding joined
returns-in_err-number-clause-found c = λ line is.
    let all = is ∙ object_joined line in
    let at_digest = c.in_ok-digest.ensures.found (base32 line.digest) (between (codes ",\"filename\":\"") (escape (file_name line.volume)) (between (codes ",\"length\":\"") (escape (decimal line.length)) (between (codes ",\"method\":\"") (escape (line.method)) (between (codes ",\"mime\":\"") (escape (line.mime)) (between (codes ",\"number\":\"") (escape (decimal line.number)) (between (codes ",\"offset\":\"") (escape (decimal line.offset)) (between (codes ",\"status\":\"") (escape (decimal line.status)) (between (codes ",\"url\":\"") (escape (line.url)) (codes "}"))))))))) all in
    let at_filename = c.in_ok-filename.ensures.found (file_name line.volume) (between (codes ",\"length\":\"") (escape (decimal line.length)) (between (codes ",\"method\":\"") (escape (line.method)) (between (codes ",\"mime\":\"") (escape (line.mime)) (between (codes ",\"number\":\"") (escape (decimal line.number)) (between (codes ",\"offset\":\"") (escape (decimal line.offset)) (between (codes ",\"status\":\"") (escape (decimal line.status)) (between (codes ",\"url\":\"") (escape (line.url)) (codes "}")))))))) at_digest.1 in
    let at_length = c.in_ok-length.ensures.found (decimal line.length) (between (codes ",\"method\":\"") (escape (line.method)) (between (codes ",\"mime\":\"") (escape (line.mime)) (between (codes ",\"number\":\"") (escape (decimal line.number)) (between (codes ",\"offset\":\"") (escape (decimal line.offset)) (between (codes ",\"status\":\"") (escape (decimal line.status)) (between (codes ",\"url\":\"") (escape (line.url)) (codes "}"))))))) at_filename.1 in
    let at_method = c.in_ok-method.ensures.found (line.method) (between (codes ",\"mime\":\"") (escape (line.mime)) (between (codes ",\"number\":\"") (escape (decimal line.number)) (between (codes ",\"offset\":\"") (escape (decimal line.offset)) (between (codes ",\"status\":\"") (escape (decimal line.status)) (between (codes ",\"url\":\"") (escape (line.url)) (codes "}")))))) at_length.1 in
    let at_mime = c.in_ok-mime.ensures.found (line.mime) (between (codes ",\"number\":\"") (escape (decimal line.number)) (between (codes ",\"offset\":\"") (escape (decimal line.offset)) (between (codes ",\"status\":\"") (escape (decimal line.status)) (between (codes ",\"url\":\"") (escape (line.url)) (codes "}"))))) at_method.1 in
    absurd (c.in_err-number.ensures.found (decimal line.number) (between (codes ",\"offset\":\"") (escape (decimal line.offset)) (between (codes ",\"status\":\"") (escape (decimal line.status)) (between (codes ",\"url\":\"") (escape (line.url)) (codes "}")))) at_mime.1)

pub returns-in_err-offset-clause-found : goal.returns-in_err-offset-clause-found
unfolding joined
returns-in_err-offset-clause-found c = λ line is.
    let all = is ∙ object_joined line in
    let at_digest = c.in_ok-digest.ensures.found (base32 line.digest) (between (codes ",\"filename\":\"") (escape (file_name line.volume)) (between (codes ",\"length\":\"") (escape (decimal line.length)) (between (codes ",\"method\":\"") (escape (line.method)) (between (codes ",\"mime\":\"") (escape (line.mime)) (between (codes ",\"number\":\"") (escape (decimal line.number)) (between (codes ",\"offset\":\"") (escape (decimal line.offset)) (between (codes ",\"status\":\"") (escape (decimal line.status)) (between (codes ",\"url\":\"") (escape (line.url)) (codes "}"))))))))) all in
    let at_filename = c.in_ok-filename.ensures.found (file_name line.volume) (between (codes ",\"length\":\"") (escape (decimal line.length)) (between (codes ",\"method\":\"") (escape (line.method)) (between (codes ",\"mime\":\"") (escape (line.mime)) (between (codes ",\"number\":\"") (escape (decimal line.number)) (between (codes ",\"offset\":\"") (escape (decimal line.offset)) (between (codes ",\"status\":\"") (escape (decimal line.status)) (between (codes ",\"url\":\"") (escape (line.url)) (codes "}")))))))) at_digest.1 in
    let at_length = c.in_ok-length.ensures.found (decimal line.length) (between (codes ",\"method\":\"") (escape (line.method)) (between (codes ",\"mime\":\"") (escape (line.mime)) (between (codes ",\"number\":\"") (escape (decimal line.number)) (between (codes ",\"offset\":\"") (escape (decimal line.offset)) (between (codes ",\"status\":\"") (escape (decimal line.status)) (between (codes ",\"url\":\"") (escape (line.url)) (codes "}"))))))) at_filename.1 in
    let at_method = c.in_ok-method.ensures.found (line.method) (between (codes ",\"mime\":\"") (escape (line.mime)) (between (codes ",\"number\":\"") (escape (decimal line.number)) (between (codes ",\"offset\":\"") (escape (decimal line.offset)) (between (codes ",\"status\":\"") (escape (decimal line.status)) (between (codes ",\"url\":\"") (escape (line.url)) (codes "}")))))) at_length.1 in
    let at_mime = c.in_ok-mime.ensures.found (line.mime) (between (codes ",\"number\":\"") (escape (decimal line.number)) (between (codes ",\"offset\":\"") (escape (decimal line.offset)) (between (codes ",\"status\":\"") (escape (decimal line.status)) (between (codes ",\"url\":\"") (escape (line.url)) (codes "}"))))) at_method.1 in
    let at_number = c.in_ok-number.ensures.found (decimal line.number) (between (codes ",\"offset\":\"") (escape (decimal line.offset)) (between (codes ",\"status\":\"") (escape (decimal line.status)) (between (codes ",\"url\":\"") (escape (line.url)) (codes "}")))) at_mime.1 in
    absurd (c.in_err-offset.ensures.found (decimal line.offset) (between (codes ",\"status\":\"") (escape (decimal line.status)) (between (codes ",\"url\":\"") (escape (line.url)) (codes "}"))) at_number.1)

pub returns-in_err-status-clause-found : goal.returns-in_err-status-clause-found
unfolding joined
returns-in_err-status-clause-found c = λ line is.
    let all = is ∙ object_joined line in
    let at_digest = c.in_ok-digest.ensures.found (base32 line.digest) (between (codes ",\"filename\":\"") (escape (file_name line.volume)) (between (codes ",\"length\":\"") (escape (decimal line.length)) (between (codes ",\"method\":\"") (escape (line.method)) (between (codes ",\"mime\":\"") (escape (line.mime)) (between (codes ",\"number\":\"") (escape (decimal line.number)) (between (codes ",\"offset\":\"") (escape (decimal line.offset)) (between (codes ",\"status\":\"") (escape (decimal line.status)) (between (codes ",\"url\":\"") (escape (line.url)) (codes "}"))))))))) all in
    let at_filename = c.in_ok-filename.ensures.found (file_name line.volume) (between (codes ",\"length\":\"") (escape (decimal line.length)) (between (codes ",\"method\":\"") (escape (line.method)) (between (codes ",\"mime\":\"") (escape (line.mime)) (between (codes ",\"number\":\"") (escape (decimal line.number)) (between (codes ",\"offset\":\"") (escape (decimal line.offset)) (between (codes ",\"status\":\"") (escape (decimal line.status)) (between (codes ",\"url\":\"") (escape (line.url)) (codes "}")))))))) at_digest.1 in
    let at_length = c.in_ok-length.ensures.found (decimal line.length) (between (codes ",\"method\":\"") (escape (line.method)) (between (codes ",\"mime\":\"") (escape (line.mime)) (between (codes ",\"number\":\"") (escape (decimal line.number)) (between (codes ",\"offset\":\"") (escape (decimal line.offset)) (between (codes ",\"status\":\"") (escape (decimal line.status)) (between (codes ",\"url\":\"") (escape (line.url)) (codes "}"))))))) at_filename.1 in
    let at_method = c.in_ok-method.ensures.found (line.method) (between (codes ",\"mime\":\"") (escape (line.mime)) (between (codes ",\"number\":\"") (escape (decimal line.number)) (between (codes ",\"offset\":\"") (escape (decimal line.offset)) (between (codes ",\"status\":\"") (escape (decimal line.status)) (between (codes ",\"url\":\"") (escape (line.url)) (codes "}")))))) at_length.1 in
    let at_mime = c.in_ok-mime.ensures.found (line.mime) (between (codes ",\"number\":\"") (escape (decimal line.number)) (between (codes ",\"offset\":\"") (escape (decimal line.offset)) (between (codes ",\"status\":\"") (escape (decimal line.status)) (between (codes ",\"url\":\"") (escape (line.url)) (codes "}"))))) at_method.1 in
    let at_number = c.in_ok-number.ensures.found (decimal line.number) (between (codes ",\"offset\":\"") (escape (decimal line.offset)) (between (codes ",\"status\":\"") (escape (decimal line.status)) (between (codes ",\"url\":\"") (escape (line.url)) (codes "}")))) at_mime.1 in
    let at_offset = c.in_ok-offset.ensures.found (decimal line.offset) (between (codes ",\"status\":\"") (escape (decimal line.status)) (between (codes ",\"url\":\"") (escape (line.url)) (codes "}"))) at_number.1 in
    absurd (c.in_err-status.ensures.found (decimal line.status) (between (codes ",\"url\":\"") (escape (line.url)) (codes "}")) at_offset.1)

pub returns-in_err-url-clause-found : goal.returns-in_err-url-clause-found
unfolding joined
returns-in_err-url-clause-found c = λ line is.
    let all = is ∙ object_joined line in
    let at_digest = c.in_ok-digest.ensures.found (base32 line.digest) (between (codes ",\"filename\":\"") (escape (file_name line.volume)) (between (codes ",\"length\":\"") (escape (decimal line.length)) (between (codes ",\"method\":\"") (escape (line.method)) (between (codes ",\"mime\":\"") (escape (line.mime)) (between (codes ",\"number\":\"") (escape (decimal line.number)) (between (codes ",\"offset\":\"") (escape (decimal line.offset)) (between (codes ",\"status\":\"") (escape (decimal line.status)) (between (codes ",\"url\":\"") (escape (line.url)) (codes "}"))))))))) all in
    let at_filename = c.in_ok-filename.ensures.found (file_name line.volume) (between (codes ",\"length\":\"") (escape (decimal line.length)) (between (codes ",\"method\":\"") (escape (line.method)) (between (codes ",\"mime\":\"") (escape (line.mime)) (between (codes ",\"number\":\"") (escape (decimal line.number)) (between (codes ",\"offset\":\"") (escape (decimal line.offset)) (between (codes ",\"status\":\"") (escape (decimal line.status)) (between (codes ",\"url\":\"") (escape (line.url)) (codes "}")))))))) at_digest.1 in
    let at_length = c.in_ok-length.ensures.found (decimal line.length) (between (codes ",\"method\":\"") (escape (line.method)) (between (codes ",\"mime\":\"") (escape (line.mime)) (between (codes ",\"number\":\"") (escape (decimal line.number)) (between (codes ",\"offset\":\"") (escape (decimal line.offset)) (between (codes ",\"status\":\"") (escape (decimal line.status)) (between (codes ",\"url\":\"") (escape (line.url)) (codes "}"))))))) at_filename.1 in
    let at_method = c.in_ok-method.ensures.found (line.method) (between (codes ",\"mime\":\"") (escape (line.mime)) (between (codes ",\"number\":\"") (escape (decimal line.number)) (between (codes ",\"offset\":\"") (escape (decimal line.offset)) (between (codes ",\"status\":\"") (escape (decimal line.status)) (between (codes ",\"url\":\"") (escape (line.url)) (codes "}")))))) at_length.1 in
    let at_mime = c.in_ok-mime.ensures.found (line.mime) (between (codes ",\"number\":\"") (escape (decimal line.number)) (between (codes ",\"offset\":\"") (escape (decimal line.offset)) (between (codes ",\"status\":\"") (escape (decimal line.status)) (between (codes ",\"url\":\"") (escape (line.url)) (codes "}"))))) at_method.1 in
    let at_number = c.in_ok-number.ensures.found (decimal line.number) (between (codes ",\"offset\":\"") (escape (decimal line.offset)) (between (codes ",\"status\":\"") (escape (decimal line.status)) (between (codes ",\"url\":\"") (escape (line.url)) (codes "}")))) at_mime.1 in
    let at_offset = c.in_ok-offset.ensures.found (decimal line.offset) (between (codes ",\"status\":\"") (escape (decimal line.status)) (between (codes ",\"url\":\"") (escape (line.url)) (codes "}"))) at_number.1 in
    let at_status = c.in_ok-status.ensures.found (decimal line.status) (between (codes ",\"url\":\"") (escape (line.url)) (codes "}")) at_offset.1 in
    absurd (c.in_err-url.ensures.found line.url at_status.1)

pub returns-clause-found : goal.returns-clause-found
unfolding joined
returns-clause-found c = λ line is.
    let all = is ∙ object_joined line in
    let at_digest = c.in_ok-digest.ensures.found (base32 line.digest) (between (codes ",\"filename\":\"") (escape (file_name line.volume)) (between (codes ",\"length\":\"") (escape (decimal line.length)) (between (codes ",\"method\":\"") (escape (line.method)) (between (codes ",\"mime\":\"") (escape (line.mime)) (between (codes ",\"number\":\"") (escape (decimal line.number)) (between (codes ",\"offset\":\"") (escape (decimal line.offset)) (between (codes ",\"status\":\"") (escape (decimal line.status)) (between (codes ",\"url\":\"") (escape (line.url)) (codes "}"))))))))) all in
    let at_filename = c.in_ok-filename.ensures.found (file_name line.volume) (between (codes ",\"length\":\"") (escape (decimal line.length)) (between (codes ",\"method\":\"") (escape (line.method)) (between (codes ",\"mime\":\"") (escape (line.mime)) (between (codes ",\"number\":\"") (escape (decimal line.number)) (between (codes ",\"offset\":\"") (escape (decimal line.offset)) (between (codes ",\"status\":\"") (escape (decimal line.status)) (between (codes ",\"url\":\"") (escape (line.url)) (codes "}")))))))) at_digest.1 in
    let at_length = c.in_ok-length.ensures.found (decimal line.length) (between (codes ",\"method\":\"") (escape (line.method)) (between (codes ",\"mime\":\"") (escape (line.mime)) (between (codes ",\"number\":\"") (escape (decimal line.number)) (between (codes ",\"offset\":\"") (escape (decimal line.offset)) (between (codes ",\"status\":\"") (escape (decimal line.status)) (between (codes ",\"url\":\"") (escape (line.url)) (codes "}"))))))) at_filename.1 in
    let at_method = c.in_ok-method.ensures.found (line.method) (between (codes ",\"mime\":\"") (escape (line.mime)) (between (codes ",\"number\":\"") (escape (decimal line.number)) (between (codes ",\"offset\":\"") (escape (decimal line.offset)) (between (codes ",\"status\":\"") (escape (decimal line.status)) (between (codes ",\"url\":\"") (escape (line.url)) (codes "}")))))) at_length.1 in
    let at_mime = c.in_ok-mime.ensures.found (line.mime) (between (codes ",\"number\":\"") (escape (decimal line.number)) (between (codes ",\"offset\":\"") (escape (decimal line.offset)) (between (codes ",\"status\":\"") (escape (decimal line.status)) (between (codes ",\"url\":\"") (escape (line.url)) (codes "}"))))) at_method.1 in
    let at_number = c.in_ok-number.ensures.found (decimal line.number) (between (codes ",\"offset\":\"") (escape (decimal line.offset)) (between (codes ",\"status\":\"") (escape (decimal line.status)) (between (codes ",\"url\":\"") (escape (line.url)) (codes "}")))) at_mime.1 in
    let at_offset = c.in_ok-offset.ensures.found (decimal line.offset) (between (codes ",\"status\":\"") (escape (decimal line.status)) (between (codes ",\"url\":\"") (escape (line.url)) (codes "}"))) at_number.1 in
    let at_status = c.in_ok-status.ensures.found (decimal line.status) (between (codes ",\"url\":\"") (escape (line.url)) (codes "}")) at_offset.1 in
    record {
      digest = at_digest.0;
      filename = at_filename.0;
      length = at_length.0;
      method = at_method.0;
      mime = at_mime.0;
      number = at_number.0;
      offset = at_offset.0;
      status = at_status.0;
      url = c.in_ok-url.ensures.found line.url at_status.1;
    }

pub returns-clause-some : goal.returns-clause-some
unfolding joined
returns-clause-some c =
    c.in_ok-digest.ensures.some ∙ ap (λ (rest : List ℕ). between (codes "{\"digest\":\"") c.in_ok-digest.digest.now rest) (c.in_ok-filename.ensures.some ∙ ap (λ (rest : List ℕ). between (codes ",\"filename\":\"") c.in_ok-filename.filename.now rest) (c.in_ok-length.ensures.some ∙ ap (λ (rest : List ℕ). between (codes ",\"length\":\"") c.in_ok-length.length.now rest) (c.in_ok-method.ensures.some ∙ ap (λ (rest : List ℕ). between (codes ",\"method\":\"") c.in_ok-method.method.now rest) (c.in_ok-mime.ensures.some ∙ ap (λ (rest : List ℕ). between (codes ",\"mime\":\"") c.in_ok-mime.mime.now rest) (c.in_ok-number.ensures.some ∙ ap (λ (rest : List ℕ). between (codes ",\"number\":\"") c.in_ok-number.number.now rest) (c.in_ok-offset.ensures.some ∙ ap (λ (rest : List ℕ). between (codes ",\"offset\":\"") c.in_ok-offset.offset.now rest) (c.in_ok-status.ensures.some ∙ ap (λ (rest : List ℕ). between (codes ",\"status\":\"") c.in_ok-status.status.now rest) (c.in_ok-url.ensures.some))))))))
