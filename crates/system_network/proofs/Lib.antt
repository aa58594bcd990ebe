mod AddressLaws
mod Inputs
