-- The ids of records (ISO 28500, WARC-Record-ID).
use Rattle.std.specs.Prelude.{◌≡◌, ℕ, ◌<◌, List, ◌++◌, All, codes, decimal, length, take}
use Rattle.sha1.specs.Sha1.{sha1}
use Rattle.uuid.specs.Parts.{with_version, with_variant}
use Rattle.uuid.specs.Text.{hyphenated_text, lower}
use Rattle.uuid.specs.declared.Variant.TheVariants.{RFC4122}
use Rattle.uuid.specs.declared.Version.TheVariants.{Sha1}
use Rattle.warc_text.specs.declared.id.IdKind.{IdKind}
use Rattle.warc_text.specs.declared.id.IdKind.TheVariants.{Info, Response, Request}

-- the bytes of a UUID (RFC 9562, section 4)
pub record IsUuid (uuid : List ℕ) : Type 0 where
  pub length_is : length uuid ≡ 16
  pub bytes : All (λ byte. byte < 256) uuid

-- the UUID of a name in a namespace, by SHA-1 (RFC 9562, section 5.5)
unfoldable pub name_based : List ℕ → List ℕ → List ℕ
name_based namespace name = with_version (with_variant (take 16 (sha1 (namespace ++ name))) RFC4122) Sha1

unfoldable pub id_word : IdKind → List ℕ
id_word Info = codes "info "
id_word Response = codes "response "
id_word Request = codes "request "

-- the name of a record: its kind and a number
unfoldable pub id_name : IdKind → ℕ → List ℕ
id_name kind number = id_word kind ++ decimal number

-- the id of a volume's warcinfo, or of a capture's response or request
unfoldable pub id_of : List ℕ → IdKind → ℕ → List ℕ
id_of namespace kind number = name_based namespace (id_name kind number)

-- a UUID as it is written (RFC 9562, section 4)
unfoldable pub uuid_text : List ℕ → List ℕ
uuid_text uuid = hyphenated_text lower uuid

-- an id as a record has it (RFC 9562, section 4; RFC 3986)
unfoldable pub id_text : List ℕ → List ℕ
id_text id = codes "<urn:uuid:" ++ uuid_text id ++ codes ">"
