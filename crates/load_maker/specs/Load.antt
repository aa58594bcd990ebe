-- The exchanges of a load, by their numbers.
use Rattle.std.specs.Prelude.{ℕ, zero, suc, ◌+◌, ◌-◌, ◌*◌, ◌%◌, ◌==◌, if◌then◌else◌, false, List, [], ◌++◌, replicate, codes, decimal}
use Rattle.capture.specs.declared.captured.Brought.{Brought}
use Rattle.capture.specs.declared.captured.Taken.{Taken}

-- the exchange whose payload this one has: itself, or for each fourth the third before it
abbrev pub page_of : ℕ → ℕ
page_of number = if number % 4 == 3 then number - 3 else number

-- when an exchange is, in milliseconds since 1970
abbrev pub date : ℕ → ℕ
date number = 1700000000000 + 1000 * number

-- the host of an exchange: one of sixteen
unfoldable pub host_text : ℕ → List ℕ
host_text number = codes "h" ++ decimal (number % 16) ++ codes ".test"

-- the URL of an exchange
unfoldable pub uri_text : ℕ → List ℕ
uri_text number = codes "http://" ++ host_text number ++ codes "/p" ++ decimal number

-- the request of an exchange, as it is sent to a proxy (RFC 9112, section 3.2.2)
unfoldable pub request_text : ℕ → List ℕ
request_text number = codes "GET " ++ uri_text number ++ codes " HTTP/1.1\r\nHost: " ++ host_text number ++ codes "\r\n\r\n"

-- the requests of so many exchanges, from this number on
abbrev pub requests_text : ℕ → ℕ → List ℕ
requests_text from zero = []
requests_text from (suc count) = request_text from ++ requests_text (from + 1) count

-- how long the payload of an exchange is
abbrev pub payload_len : ℕ → ℕ → ℕ
payload_len seed number = (seed + 97 * page_of number) % 2049

-- its payload: one letter, over and over
abbrev pub payload : ℕ → ℕ → List ℕ
payload seed number = replicate (payload_len seed number) (97 + page_of number % 26)

-- what stands before the length in each response's head
unfoldable pub head_front : List ℕ
head_front = codes "HTTP/1.1 200 OK\r\nContent-Type: text/plain\r\nContent-Length: "

-- the head of a response with a payload of so many bytes
unfoldable pub head_text : ℕ → List ℕ
head_text len = head_front ++ decimal len ++ codes "\r\n\r\n"

-- what the origin of an exchange sends
abbrev pub origin_text : ℕ → ℕ → List ℕ
origin_text seed number = head_text (payload_len seed number) ++ payload seed number

-- ---- what a recording proxy makes of an exchange

-- what stands behind the host in what it sends to the origin (RFC 9110, section 7.6.3; RFC 9112, section 9.6)
unfoldable pub forwarded_end : List ℕ
forwarded_end = codes "\r\nVia: 1.1 memproxy\r\nConnection: close\r\n\r\n"

-- what stands before the version there (RFC 9112, section 3.2.1)
unfoldable pub forwarded_begin : ℕ → List ℕ
forwarded_begin number = codes "GET /p" ++ decimal number

-- what it sends to the origin
unfoldable pub forwarded_text : ℕ → List ℕ
forwarded_text number = forwarded_begin number ++ codes " HTTP/1.1\r\nHost: " ++ host_text number ++ forwarded_end

-- what it stores
abbrev pub taken_of : (seed number : ℕ) → Taken
taken_of seed number = record {
  method = codes "GET";
  uri = uri_text number;
  date = date number;
  request = forwarded_text number;
  head = head_text (payload_len seed number);
  wire = payload seed number;
  cut = false;
}

-- what it brings back
abbrev pub brought_of : (seed number : ℕ) → Brought
brought_of seed number = record {
  method = codes "GET";
  uri = uri_text number;
  date = date number;
  head = head_text (payload_len seed number);
  payload = payload seed number;
}
