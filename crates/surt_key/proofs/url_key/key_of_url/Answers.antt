-- The five parts of a key stand one behind the other.
use Rattle.std.proofs.Common.{◌≡◌, Some, ap, sym, ◌∙◌, ◌++◌, codes}
use Rattle.url.specs.Parts.{nonempty_host}
use Rattle.capture.specs.Fields.{lowered}
use Rattle.surt_key.specs.Key.{host_text_of, port_text, query_text, surt_key}
use Rattle.surt_key.proofs.KeyLemmas.{five_put}
use Rattle.surt_key.proofs.TargetKeys.{target_key}
use Rattle.surt_key.proofs.url_key.key_of_url.Goals as goal

made : (c : goal.After-of) → c.of.result ≡ surt_key c.args.url.now
unfolding surt_key
made c =
    let url = c.args.url.now in
    c.of.ensures
    ∙ five_put (host_text_of (nonempty_host url)) (port_text url.port) (codes ")") (lowered url.path) (query_text url.query)
    c.in_ok-out.out.items c.put_host.new.out.items c.put_all.new.out.items c.push.new.self.items c.put_lowered.new.out.items c.put_query.new.out.items
    c.in_ok-out.ensures.items
    c.in_ok-put_host.ensures
    (c.in_ok-put_all.ensures ∙ ap (λ t. c.put_host.new.out.items ++ t) (c.as_bytes.ensures.value ∙ c.port_text.ensures))
    c.in_ok-push.ensures.items
    (c.in_ok-put_lowered.ensures ∙ ap (λ t. c.push.new.self.items ++ lowered t) (c.as_bytes-2.ensures.value ∙ c.path.ensures.value))
    (c.in_ok-put_query.ensures ∙ ap (λ t. c.put_lowered.new.out.items ++ query_text t) c.query.ensures.value)

pub returns-clause-value : goal.returns-clause-value
returns-clause-value c = made c

pub returns-clause-accepted : goal.returns-clause-accepted
returns-clause-accepted c = λ target is. target_key target c.args.url.now is ∙ ap Some (sym (made c))
