-- The statuses of the program's own answers, with the reason phrases that their standards give them (RFC 9110, section 15; RFC 6585,
-- section 5; RFC 4918, section 11.5).
use Rattle.std.specs.Prelude.{ℕ, List, codes}
use Rattle.head_lines.specs.declared.status.Status.{Status}
use Rattle.head_lines.specs.declared.status.Status.TheVariants.{Ok, Found, BadRequest, NotFound, MethodNotAllowed, ContentTooLarge, HeadTooLarge, InternalServerError, NotImplemented, BadGateway, ServiceUnavailable, InsufficientStorage}

-- the number
unfoldable pub status_code : Status → ℕ
status_code Ok = 200
status_code Found = 302
status_code BadRequest = 400
status_code NotFound = 404
status_code MethodNotAllowed = 405
status_code ContentTooLarge = 413
status_code HeadTooLarge = 431
status_code InternalServerError = 500
status_code NotImplemented = 501
status_code BadGateway = 502
status_code ServiceUnavailable = 503
status_code InsufficientStorage = 507

-- the reason phrase
unfoldable pub reason_phrase : Status → List ℕ
reason_phrase Ok = codes "OK"
reason_phrase Found = codes "Found"
reason_phrase BadRequest = codes "Bad Request"
reason_phrase NotFound = codes "Not Found"
reason_phrase MethodNotAllowed = codes "Method Not Allowed"
reason_phrase ContentTooLarge = codes "Content Too Large"
reason_phrase HeadTooLarge = codes "Request Header Fields Too Large"
reason_phrase InternalServerError = codes "Internal Server Error"
reason_phrase NotImplemented = codes "Not Implemented"
reason_phrase BadGateway = codes "Bad Gateway"
reason_phrase ServiceUnavailable = codes "Service Unavailable"
reason_phrase InsufficientStorage = codes "Insufficient Storage"
